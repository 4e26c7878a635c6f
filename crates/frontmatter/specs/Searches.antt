-- What a search of the code promises, by a place of the book.
use Rattle.std.specs.Prelude.{ℕ, List, drop, Option, None, Some}
use Rattle.eaters.specs.Find.{Place, at, nowhere}
use Rattle.cursor.specs.declared.Cursor.{Cursor}
use Rattle.cursor.specs.Cursors.{rest}
use Rattle.cursor.specs.Moved.{Moved}

-- the cursor is k characters on, or the place is nowhere
pub data SoughtAt (s : List ℕ) (from : Cursor) : Place → Option Cursor → Type 0 where
  there : {k : ℕ} {c : Cursor} → Moved s from c (drop k (rest s from)) → SoughtAt s from (at k) (Some c)
  gone : SoughtAt s from nowhere None
