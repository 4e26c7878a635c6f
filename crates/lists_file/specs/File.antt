-- THE FILE of a version and three lists (document 02, W1).
use Rattle.std.specs.Prelude.{ℕ, ◌≤◌, ◌≡◌, List, [], ◌∷◌, ◌++◌}
use Rattle.token.specs.Lists.{Lists}
use Rattle.fields.specs.Numerals.{numeral}
use Rattle.lists_file.specs.declared.Version.{Version}
use Rattle.lists_file.specs.Names.{tab, newline, unicode_word, name_of}

-- `unicode` and three decimal numbers; one tab stands between two fields
unfoldable pub first_text : Version → List ℕ
first_text v = unicode_word ++ (tab ∷ (numeral 10 v.major ++ (tab ∷ (numeral 10 v.minor ++ (tab ∷ numeral 10 v.update)))))

-- the name of a list, low and high in lower-case hexadecimal without leading zeros
unfoldable pub record_text : (which low high : ℕ) → List ℕ
record_text which low high = name_of which ++ (tab ∷ (numeral 16 low ++ (tab ∷ numeral 16 high)))

-- every line is ended by LF
abbrev pub line : List ℕ → List ℕ
line text = text ++ (newline ∷ [])

-- one record a line, for each pair of a list
unfoldable pub group_lines : (which : ℕ) → List ℕ → List ℕ
group_lines which [] = []
group_lines which (low ∷ []) = []
group_lines which (low ∷ high ∷ l) = line (record_text which low high) ++ group_lines which l

-- the first line, then the records, grouped in this order
unfoldable pub file_of : Version → Lists → List ℕ
file_of v L = line (first_text v) ++ (group_lines 0 L.starts ++ (group_lines 1 L.continues ++ group_lines 2 L.emoji))

-- What a file can hold: version numbers to 65,535, and whole pairs of numbers that have at most six digits.
pub record VersionFits (v : Version) : Type 0 where
  pub major : v.major ≤ 65535
  pub minor : v.minor ≤ 65535
  pub update : v.update ≤ 65535

pub data Pairs : List ℕ → Type 0 where
  no_pair : Pairs []
  pair : {low high : ℕ} {l : List ℕ} → low ≤ 0xFFFFFF → high ≤ 0xFFFFFF → Pairs l → Pairs (low ∷ high ∷ l)

-- each list
pub record ListsFit (L : Lists) : Type 0 where
  pub starts : Pairs L.starts
  pub continues : Pairs L.continues
  pub emoji : Pairs L.emoji

-- s is a file: that of some version and lists that fit
pub record IsFile (s : List ℕ) : Type 0 where
  pub version : Version
  pub lists : Lists
  pub fits : VersionFits version
  pub fit : ListsFit lists
  pub same : s ≡ file_of version lists
