-- What was loaded lies within the runs.
use Rattle.std.specs.Prelude.{ℕ, ◌≡◌, ◌≤◌, Option, None, Some, Ok, Err, List, [], length, take}
use Rattle.std.specs.Io.KnownBytes.{Appends}
use Rattle.token.specs.Lists.{Lists}
use Rattle.refusal.specs.declared.Numbers.{Numbers}
use Rattle.lists_file.specs.declared.Version.{Version}
use Rattle.lists_file.specs.Load.{loaded, load}
use Rattle.lists_in.specs.declared.Held.{Held}
use Rattle.lists_in.specs.Answers.{ReadAnswer, read_numbers}
use Rattle.reports.specs.Lines.{lists_line}

-- the first n numbers of a run lie within it, and are n
abbrev pub Counts : ℕ → List ℕ → Type 0
Counts n xs = (n ≤ length xs) × (n ≡ length (take n xs))

pub record Fronts (starts continues emoji : List ℕ) (h : Held) : Type 0 where
  pub in_starts : Counts h.starts starts
  pub in_continues : Counts h.continues continues
  pub in_emoji : Counts h.emoji emoji

abbrev pub Inside : (starts continues emoji : List ℕ) → Option Held → Type 0
Inside starts continues emoji (Some h) = Fronts starts continues emoji h
Inside starts continues emoji None = Unit {0}

-- and where lists were loaded, they are those of the file
pub record Loaded (file starts continues emoji : List ℕ) (r : Option Held) : Type 0 where
  pub inside : Inside starts continues emoji r
  pub from_file : (v : Version) (L : Lists) → load file ≡ loaded v L → (h : Held) → r ≡ Some h
      → (take h.starts starts ≡ L.starts) × ((take h.continues continues ≡ L.continues) × (take h.emoji emoji ≡ L.emoji))

-- what is written of a file that was read: nothing where its lists were loaded, else the line that says why not
abbrev pub loading_said : ReadAnswer → List ℕ
loading_said (Ok held) = []
loading_said (Err why) = lists_line (read_numbers (Err why))

-- why there are no lists was told, in one line
abbrev pub Told : (before now : Option (List ℕ)) → Type 0
Told before now = (why : Numbers) × Appends before now (lists_line why)
