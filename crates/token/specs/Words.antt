-- Identifiers (000's ident_or_unknown_prefix and invalid_ident), after their first character.
use Rattle.std.specs.Prelude.{ℕ, Bool}
use Rattle.basics.specs.Choice.{or}
use Rattle.eaters.specs.Eat.{Eater, give, while, ◌>>◌}
use Rattle.eaters.specs.Look.{if_at}
use Rattle.token.specs.declared.TokenKind.{TokenKind}
use Rattle.token.specs.declared.TokenKind.TheVariants.{Ident, InvalidIdent, UnknownPrefix}
use Rattle.token.specs.Names.{is, '#', 'double', 'single', 'joiner'}
use Rattle.token.specs.Lists.{Lists, going, smiling}

-- with emoji in it: what goes on in an identifier, emoji, and the zero width joiner
abbrev pub in_invalid : Lists → ℕ → Bool
in_invalid L c = or (going L c) (or (smiling L c) (is 'joiner' c))

abbrev pub invalid_ident : Lists → Eater TokenKind
invalid_ident L = while (in_invalid L) >> give InvalidIdent

-- what makes an unknown prefix of the identifier before it
abbrev pub prefix_mark : ℕ → Bool
prefix_mark c = or (is '#' c) (or (is 'double' c) (is 'single' c))

abbrev pub ident_or_unknown_prefix : Lists → Eater TokenKind
ident_or_unknown_prefix L = do
  while (going L)
  if_at prefix_mark (give UnknownPrefix) (if_at (smiling L) (invalid_ident L) (give Ident))
