-- What writing the numbers of a list asks and does.
use Rattle.std.specs.Prelude.{ℕ, ◌+◌, ◌*◌, ◌≤◌, ◌≡◌, List, ◌++◌, length, drop}
use Rattle.lists_file.specs.File.{group_lines, Pairs}

-- there is room for so many pairs
pub record FillRoom (s : List ℕ) (from pairs : ℕ) (run : List ℕ) : Type 0 where
  pub within : from ≤ length s
  pub room : pairs * 2 ≤ length run

-- the records of a list stand in the file from a place on, and then a rest
pub record Stand (s : List ℕ) (from which : ℕ) (l rest : List ℕ) : Type 0 where
  pub list : which ≤ 2
  pub pairs : Pairs l
  pub lines : drop from s ≡ group_lines which l ++ rest

-- the numbers of the list in the first places of the run, and past them what was there; and the place past its records
pub record Put (l before after : List ℕ) (from which r : ℕ) : Type 0 where
  pub holds : after ≡ l ++ drop (length l) before
  pub next : r ≡ from + length (group_lines which l)

-- WHAT IS WRITTEN, whatever list of so many pairs stands there
pub record Filled (s : List ℕ) (from pairs : ℕ) (before after : List ℕ) (r : ℕ) : Type 0 where
  pub within : r ≤ length s
  pub put : (which : ℕ) (l rest : List ℕ) → Stand s from which l rest → length l ≡ pairs * 2 → Put l before after from which r
