-- Literals and their suffixes (000's eat_identifier, eat_literal_suffix).
use Rattle.std.specs.Prelude.{ℕ, ◌+◌, Bool}
use Rattle.eaters.specs.Eat.{Eater, give, nothing, while, ◌>>=◌, ◌>>◌, texted, choose}
use Rattle.eaters.specs.Look.{if_eat}
use Rattle.text.specs.Chars.{size}
use Rattle.token.specs.declared.LiteralKind.{LiteralKind}
use Rattle.token.specs.declared.TokenKind.{TokenKind}
use Rattle.token.specs.declared.TokenKind.TheVariants.{Literal}
use Rattle.token.specs.Lists.{Lists, starting, going}

-- an identifier, if there is one
abbrev pub identifier : Lists → Eater (Unit {0})
identifier L = if_eat (starting L) (while (going L) >> nothing) nothing

-- a literal without its suffix: its kind, and whether a suffix is read after it
pub record Body : Type 0 where
  pub kind : LiteralKind
  pub suffixed : Bool

-- a suffix, if one is read
abbrev pub suffix : Lists → (suffixed : Bool) → Eater (Unit {0})
suffix L suffixed = choose suffixed (identifier L) nothing

-- a literal of which `before` bytes are taken already: its suffix starts where its body ends
abbrev pub literal : Lists → (before : ℕ) → Eater Body → Eater TokenKind
literal L before body = do
  r ← texted body
  suffix L r.said.suffixed
  give (Literal r.said.kind (before + size r.text))
