-- The words and the marks of the file.
use Rattle.std.specs.Prelude.{ℕ, zero, suc, List, [], ◌∷◌}

-- what stands between two fields, and what ends a line
abbrev pub tab : ℕ
tab = 9

abbrev pub newline : ℕ
newline = 10

-- `unicode`
abbrev pub unicode_word : List ℕ
unicode_word = 117 ∷ 110 ∷ 105 ∷ 99 ∷ 111 ∷ 100 ∷ 101 ∷ []

-- `start`
abbrev pub start_word : List ℕ
start_word = 115 ∷ 116 ∷ 97 ∷ 114 ∷ 116 ∷ []

-- `continue`
abbrev pub continue_word : List ℕ
continue_word = 99 ∷ 111 ∷ 110 ∷ 116 ∷ 105 ∷ 110 ∷ 117 ∷ 101 ∷ []

-- `emoji`
abbrev pub emoji_word : List ℕ
emoji_word = 101 ∷ 109 ∷ 111 ∷ 106 ∷ 105 ∷ []

-- the name of a list, which is numbered as beside refusal 3
abbrev pub name_of : (which : ℕ) → List ℕ
name_of zero = start_word
name_of (suc zero) = continue_word
name_of (suc (suc n)) = emoji_word
