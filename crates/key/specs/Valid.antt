-- What the key call lets through, in the words of documents 01 and 02 (W3, W6). `limit` is the most pairs of a list.
use Rattle.std.specs.Prelude.{ℕ, ◌/◌, ◌≤◌, ◌≡◌, List, length}
use Rattle.text.specs.Chars.{WellFormed}
use Rattle.ranges.specs.Rules.{Good}
use Rattle.eaters.specs.Find.{nowhere}
use Rattle.token.specs.Lists.{Lists}
use Rattle.line_ends.specs.LineEnds.{replaced, double_return}
use Rattle.marks.specs.Marks.{hidden_mark}
use Rattle.canon.specs.Keyable.{Keyable}
use Rattle.canon.specs.Key.{key_of}

-- a list of at most `limit` pairs, each of which obeys the rules
pub record Allowed (limit : ℕ) (l : List ℕ) : Type 0 where
  pub count : length l / 2 ≤ limit
  pub rules : Good l

-- a text of at most 4,294,967,295 bytes that is UTF-8, and three such lists
pub record Valid (limit : ℕ) (s : List ℕ) (L : Lists) : Type 0 where
  pub fits : length s ≤ 4294967295
  pub well : WellFormed s
  pub starts : Allowed limit L.starts
  pub continues : Allowed limit L.continues
  pub emoji : Allowed limit L.emoji

-- besides, no CR CR LF and no hidden mark stands anywhere, no token of the replaced text is broken, and the buffer has room for its key
pub record HasKey (limit : ℕ) (s : List ℕ) (L : Lists) (before : List ℕ) : Type 0 where
  pub valid : Valid limit s L
  pub undoubled : double_return s ≡ nowhere
  pub unmarked : hidden_mark s ≡ nowhere
  pub whole : Keyable L (replaced s)
  pub room : length (key_of L (replaced s)) ≤ length before
