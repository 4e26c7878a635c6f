-- What the pass over the lines finds.
use Rattle.std.specs.Prelude.{ℕ, Option, None, Some, Result, Ok, Err, ◌+◌, ◌≤◌, List, length}
use Rattle.basics.specs.Choice.{pick}
use Rattle.basics.specs.Tests.{is_in}
use Rattle.fields.specs.Pieces.{piece}
use Rattle.lists_file.specs.declared.Version.{Version}
use Rattle.lists_file.specs.declared.Entry.{Entry}
use Rattle.lists_file.specs.Names.{newline}
use Rattle.lists_file.specs.Lines.{record_of}
use Rattle.lists_file.specs.Load.{Read, loaded, bad_line}
use Rattle.lists_in.specs.declared.Tally.{Tally}
use Rattle.lists_in.specs.declared.Each.{Each}
use Rattle.lists_in.specs.declared.Found.{Found}
use Rattle.lists_in.specs.Tallies.{tallies_of}

-- the line that begins at a place, with the text s from there on: a record and the place past its LF; or it is bad
abbrev pub step_from : (next : ℕ) → Option Entry → Option (Entry × ℕ)
step_from next (Some e) = Some (e, next)
step_from next None = None

abbrev pub step_of : (at : ℕ) (s : List ℕ) → Option (Entry × ℕ)
step_of at s = pick (is_in s newline) (step_from (at + length (piece newline s) + 1) (record_of (piece newline s))) None

-- what is found in a good file, whose records begin at a place; or the first bad line
abbrev pub found : Version → (from : ℕ) → Each Tally → Found
found v from t = record { version = v; from = from; tallies = t }

abbrev pub surveyed : (from : ℕ) → Read → Result Found ℕ
surveyed from (loaded v L) = Ok (found v from (tallies_of L))
surveyed from (bad_line index) = Err index

-- the records begin past the first line
pub record Starting (from bytes : ℕ) : Type 0 where
  pub past : 1 ≤ from
  pub within : from ≤ bytes
