-- The bytes of the parts of a file, and what measuring them asks and says.
use Rattle.std.specs.Prelude.{ℕ, ◌+◌, ◌*◌, ◌≤◌, ◌≡◌, List, length}
use Rattle.token.specs.Lists.{Lists}
use Rattle.fields.specs.Numerals.{numeral}
use Rattle.lists_file.specs.declared.Version.{Version}
use Rattle.lists_file.specs.Names.{name_of}
use Rattle.lists_file.specs.File.{line, first_text, group_lines}

-- the line of a record: a name, two numbers, two tabs and LF
abbrev pub record_bytes : (which low high : ℕ) → ℕ
record_bytes which low high = length (name_of which) + length (numeral 16 low) + length (numeral 16 high) + 3

-- the first line: `unicode`, three numbers, three tabs and LF
abbrev pub first_bytes : Version → ℕ
first_bytes v = length (numeral 10 v.major) + length (numeral 10 v.minor) + length (numeral 10 v.update) + 11

-- the file: its first line, and the records of each list
abbrev pub file_bytes : Version → Lists → ℕ
file_bytes v L = length (line (first_text v)) + length (group_lines 0 L.starts) + length (group_lines 1 L.continues) + length (group_lines 2 L.emoji)

-- a list so short that the bytes of its lines are a number of 64 bits
abbrev pub Short : List ℕ → Type 0
Short l = length l ≤ 4294967295

pub record AllShort (L : Lists) : Type 0 where
  pub starts : Short L.starts
  pub continues : Short L.continues
  pub emoji : Short L.emoji

-- r is how many xs are, in at most `lines` lines, of which each has at most 32
pub record Counted (xs : List ℕ) (lines r : ℕ) : Type 0 where
  pub same : r ≡ length xs
  pub few : r ≤ 32 * lines
