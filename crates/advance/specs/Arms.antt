-- Parts of the decision over the first character, in the words of the book.
use Rattle.std.specs.Prelude.{ℕ, ◌≡◌, Bool, List, get_or}
use Rattle.basics.specs.Choice.{and}
use Rattle.eaters.specs.Eat.{Eater, give, take_while, while, choose}
use Rattle.classes.specs.Whitespace.{is_whitespace}
use Rattle.token.specs.declared.TokenKind.{TokenKind}
use Rattle.token.specs.declared.TokenKind.TheVariants as kind
use Rattle.token.specs.Lists.{Lists, starting, smiling}
use Rattle.token.specs.Whitespace.{whitespace}
use Rattle.token.specs.Words.{ident_or_unknown_prefix, invalid_ident}
use Rattle.token.specs.Names.{is, '-'}
use Rattle.token.specs.Advance.{last}
use Rattle.cursor.specs.declared.Cursor.{Cursor}
use Rattle.cursor.specs.Cursors.{rest}
use Rattle.cursor.specs.Moved.{Moved}
use Rattle.cursor.specs.Ran.{left}
use Rattle.advance.specs.declared.Blanks.{Blanks}

-- the whitespace after a first character c, and its last character
pub record Led (c : ℕ) (s : List ℕ) (from : Cursor) (r : Blanks) : Type 0 where
  pub moved : Moved s from r.next (left (while is_whitespace) (rest s from))
  pub last : r.last ≡ last c (take_while is_whitespace (rest s from))

-- c and the two characters after it are dashes
abbrev pub fence : (c : ℕ) → List ℕ → Bool
fence c cs = and (is '-' c) (and (is '-' (get_or cs 0 0)) (is '-' (get_or cs 1 0)))

-- after a character that is not a single point of the decision: the guards, in their order
abbrev pub guards : Lists → (c : ℕ) → Eater TokenKind
guards L c = choose (is_whitespace c) whitespace (choose (starting L c) (ident_or_unknown_prefix L) (choose (smiling L c) (invalid_ident L) (give kind.Unknown)))
