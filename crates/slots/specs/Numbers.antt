-- The numbers of a token: kind code, suffix start, length, start, line.
use Rattle.std.specs.Prelude.{ℕ, List, [], ◌∷◌}
use Rattle.token.specs.declared.Token.{Token}
use Rattle.kinds.specs.Codes.{kind_code, suffix_of}
use Rattle.puts.specs.Joined.{joined}

-- THE WIDTH of a slot: how many they are
abbrev pub width : ℕ
width = 5

abbrev pub slot_of : Token → List ℕ
slot_of t = kind_code t.kind ∷ suffix_of t.kind ∷ t.len ∷ t.start ∷ t.line ∷ []

abbrev pub numbers_of : List Token → List ℕ
numbers_of ts = joined slot_of ts
