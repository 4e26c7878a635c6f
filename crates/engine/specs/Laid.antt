-- Bytes that are laid at a place of a buffer: put there, or, where nothing is to be written, only counted.
use Rattle.std.specs.Prelude.{ℕ, ◌+◌, ◌≤◌, ◌<◌, ◌≡◌, Bool, true, List, [], ◌∷◌, length}
use Rattle.basics.specs.Choice.{pick}
use Rattle.token.specs.Names.{'newline'}
use Rattle.puts.specs.Put.{laid}
use Rattle.turns.specs.declared.Shown.{Shown}
use Rattle.turns.specs.declared.Shown.TheVariants.{Itself, Line, None}

-- xs were laid at a place, and r is the place past them
pub record Laid (writing : Bool) (xs out : List ℕ) (at : ℕ) (after : List ℕ) (r : ℕ) : Type 0 where
  pub holds : after ≡ pick writing (laid out at xs) out
  pub next : r ≡ at + length xs
  pub room : writing ≡ true → r ≤ length out

-- k bytes may be laid at a place
pub record Room (writing : Bool) (out : List ℕ) (at k : ℕ) : Type 0 where
  pub fits : at + k < 18446744073709551616
  pub room : writing ≡ true → at + k ≤ length out

-- what is shown of a character, of which these are the bytes
abbrev pub shown_bytes : (bytes : List ℕ) → Shown → List ℕ
shown_bytes bytes Itself = bytes
shown_bytes bytes Line = 'newline' ∷ []
shown_bytes bytes None = []
