-- The Rust Reference, "Whitespace" (Pattern_White_Space), and 000's is_whitespace: 11 points. 000's is_horizontal_whitespace: tab and space.
use Rattle.std.specs.Prelude.{ℕ, List, [], ◌∷◌, Bool}
use Rattle.basics.specs.Tests.{is_in}

-- tab, line feed, vertical tab, form feed, carriage return, space, next line, the two direction marks, line and paragraph separator
abbrev pub whitespace_points : List ℕ
whitespace_points = 0x09 ∷ 0x0A ∷ 0x0B ∷ 0x0C ∷ 0x0D ∷ 0x20 ∷ 0x85 ∷ 0x200E ∷ 0x200F ∷ 0x2028 ∷ 0x2029 ∷ []

unfoldable pub is_whitespace : ℕ → Bool
is_whitespace c = is_in whitespace_points c

unfoldable pub is_horizontal_whitespace : ℕ → Bool
is_horizontal_whitespace c = is_in (0x09 ∷ 0x20 ∷ []) c
