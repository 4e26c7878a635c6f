-- What the scans of raw strings promise.
use Rattle.std.specs.Prelude.{ℕ, ◌≡◌, List, length, Option, None, Some}
use Rattle.eaters.specs.Eat.{take_most, while_most}
use Rattle.token.specs.Names.{is, '#'}
use Rattle.cursor.specs.declared.Cursor.{Cursor}
use Rattle.cursor.specs.declared.Repeated.{Repeated}
use Rattle.cursor.specs.Cursors.{rest}
use Rattle.cursor.specs.Moved.{Moved}
use Rattle.token.specs.declared.LiteralKind.{LiteralKind}
use Rattle.token.specs.Literals.{Body}
use Rattle.token.specs.RawStrings.{counted, uncounted, raw_string}
use Rattle.cursor.specs.Ran.{left, Ran}
use Rattle.quoted.specs.declared.RawQuoted.{RawQuoted}

-- the hashes at a cursor, n at the most, and how many they are
pub record CountedMost (n : ℕ) (s : List ℕ) (from : Cursor) (r : Repeated) : Type 0 where
  pub moved : Moved s from r.next (left (while_most n (is '#')) (rest s from))
  pub count : r.count ≡ length (take_most n (is '#') (rest s from))

-- what a raw string's count makes of it
abbrev pub raw_body : (Option ℕ → LiteralKind) → Option ℕ → Body
raw_body kind (Some n) = counted kind n
raw_body kind None = uncounted kind

-- a raw string of any kind
pub record RawRan (s : List ℕ) (from : Cursor) (r : RawQuoted) : Type 0 where
  pub ran : (kind : Option ℕ → LiteralKind) → Ran (raw_string kind) s from r.next (raw_body kind r.count)
