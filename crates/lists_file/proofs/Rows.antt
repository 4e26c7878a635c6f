-- Files, and what they hold: document 02's form, a row each. The last has a pair that breaks a rule: its line is good all the same.
use Prim.Native.Nat.{ℕ}
use mathlib.Core.Path.{◌≡◌, refl}
use mathlib.Core.List.{List, [], ◌∷◌}
use Rattle.token.specs.Lists.{lent, none}
use Rattle.fields.specs.Pieces.{piece, after, parted}
use Rattle.fields.specs.Words.{same}
use Rattle.fields.specs.Numerals.{value_from, number_of}
use Rattle.lists_file.specs.Lines.{which_of, record_of, version, version_of}
use Rattle.lists_file.specs.Load.{Read, loaded, bad_line, load_from, load}

-- a file, and what it holds
record Row : Type 0 where
  file : List ℕ
  holds : Read

abbrev row : List ℕ → Read → Row
row file holds = record { file = file; holds = holds }

data All : List Row → Type 0 where
  done : All []
  next : {r : Row} {rs : List Row} → load r.file ≡ r.holds → All rs → All (r ∷ rs)

abbrev rows : List Row
rows =
    row (117 ∷ 110 ∷ 105 ∷ 99 ∷ 111 ∷ 100 ∷ 101 ∷ 9 ∷ 49 ∷ 53 ∷ 9 ∷ 48 ∷ 9 ∷ 48 ∷ 10 ∷ 115 ∷ 116 ∷ 97 ∷ 114 ∷ 116 ∷ 9 ∷ 99 ∷ 48 ∷ 9 ∷ 100 ∷ 54 ∷ 10 ∷ 101 ∷ 109 ∷ 111 ∷ 106 ∷ 105 ∷ 9 ∷ 49 ∷ 102 ∷ 54 ∷ 48 ∷ 48 ∷ 9 ∷ 49 ∷ 102 ∷ 54 ∷ 52 ∷ 102 ∷ 10 ∷ []) (loaded (version 15 0 0) (lent (0xC0 ∷ 0xD6 ∷ []) [] (0x1F600 ∷ 0x1F64F ∷ []))) ∷  -- unicode⇥15⇥0⇥0⏎start⇥c0⇥d6⏎emoji⇥1f600⇥1f64f⏎
    row (117 ∷ 110 ∷ 105 ∷ 99 ∷ 111 ∷ 100 ∷ 101 ∷ 9 ∷ 48 ∷ 9 ∷ 48 ∷ 9 ∷ 48 ∷ 10 ∷ []) (loaded (version 0 0 0) none) ∷  -- unicode⇥0⇥0⇥0⏎
    row [] (bad_line 0) ∷  -- nothing
    row (117 ∷ 110 ∷ 105 ∷ 99 ∷ 111 ∷ 100 ∷ 101 ∷ 9 ∷ 49 ∷ 9 ∷ 50 ∷ 9 ∷ 51 ∷ 10 ∷ 115 ∷ 116 ∷ 97 ∷ 114 ∷ 116 ∷ 9 ∷ 99 ∷ 48 ∷ 9 ∷ 100 ∷ 54 ∷ []) (bad_line 1) ∷  -- unicode⇥1⇥2⇥3⏎start⇥c0⇥d6
    row (117 ∷ 110 ∷ 105 ∷ 99 ∷ 111 ∷ 100 ∷ 101 ∷ 9 ∷ 49 ∷ 9 ∷ 50 ∷ 9 ∷ 51 ∷ 10 ∷ 115 ∷ 116 ∷ 97 ∷ 114 ∷ 116 ∷ 9 ∷ 67 ∷ 48 ∷ 9 ∷ 100 ∷ 54 ∷ 10 ∷ []) (bad_line 1) ∷  -- unicode⇥1⇥2⇥3⏎start⇥C0⇥d6⏎
    row (117 ∷ 110 ∷ 105 ∷ 99 ∷ 111 ∷ 100 ∷ 101 ∷ 9 ∷ 49 ∷ 9 ∷ 50 ∷ 9 ∷ 48 ∷ 51 ∷ 10 ∷ 115 ∷ 116 ∷ 97 ∷ 114 ∷ 116 ∷ 9 ∷ 99 ∷ 48 ∷ 9 ∷ 100 ∷ 54 ∷ 10 ∷ []) (bad_line 0) ∷  -- unicode⇥1⇥2⇥03⏎start⇥c0⇥d6⏎
    row (117 ∷ 110 ∷ 105 ∷ 99 ∷ 111 ∷ 100 ∷ 101 ∷ 9 ∷ 49 ∷ 9 ∷ 50 ∷ 9 ∷ 51 ∷ 10 ∷ 115 ∷ 116 ∷ 97 ∷ 114 ∷ 116 ∷ 9 ∷ 49 ∷ 48 ∷ 48 ∷ 48 ∷ 48 ∷ 48 ∷ 48 ∷ 9 ∷ 49 ∷ 48 ∷ 48 ∷ 48 ∷ 48 ∷ 48 ∷ 48 ∷ 10 ∷ []) (bad_line 1) ∷  -- unicode⇥1⇥2⇥3⏎start⇥1000000⇥1000000⏎
    row (117 ∷ 110 ∷ 105 ∷ 99 ∷ 111 ∷ 100 ∷ 101 ∷ 9 ∷ 49 ∷ 9 ∷ 50 ∷ 9 ∷ 51 ∷ 10 ∷ 101 ∷ 109 ∷ 111 ∷ 106 ∷ 105 ∷ 9 ∷ 97 ∷ 57 ∷ 9 ∷ 97 ∷ 57 ∷ 10 ∷ 115 ∷ 116 ∷ 97 ∷ 114 ∷ 116 ∷ 9 ∷ 99 ∷ 48 ∷ 9 ∷ 100 ∷ 54 ∷ 10 ∷ []) (bad_line 2) ∷  -- unicode⇥1⇥2⇥3⏎emoji⇥a9⇥a9⏎start⇥c0⇥d6⏎
    row (117 ∷ 110 ∷ 105 ∷ 99 ∷ 111 ∷ 100 ∷ 101 ∷ 9 ∷ 49 ∷ 9 ∷ 50 ∷ 9 ∷ 51 ∷ 10 ∷ 115 ∷ 116 ∷ 97 ∷ 114 ∷ 116 ∷ 9 ∷ 9 ∷ 99 ∷ 48 ∷ 9 ∷ 100 ∷ 54 ∷ 10 ∷ []) (bad_line 1) ∷  -- unicode⇥1⇥2⇥3⏎start⇥⇥c0⇥d6⏎
    row (117 ∷ 110 ∷ 105 ∷ 99 ∷ 111 ∷ 100 ∷ 101 ∷ 9 ∷ 54 ∷ 53 ∷ 53 ∷ 51 ∷ 54 ∷ 9 ∷ 48 ∷ 9 ∷ 48 ∷ 10 ∷ []) (bad_line 0) ∷  -- unicode⇥65536⇥0⇥0⏎
    row (117 ∷ 110 ∷ 105 ∷ 99 ∷ 111 ∷ 100 ∷ 101 ∷ 9 ∷ 49 ∷ 9 ∷ 50 ∷ 9 ∷ 51 ∷ 10 ∷ 115 ∷ 116 ∷ 97 ∷ 114 ∷ 116 ∷ 9 ∷ 100 ∷ 54 ∷ 9 ∷ 99 ∷ 48 ∷ 10 ∷ []) (loaded (version 1 2 3) (lent (0xD6 ∷ 0xC0 ∷ []) [] [])) ∷  -- unicode⇥1⇥2⇥3⏎start⇥d6⇥c0⏎
    []

rows_hold : All rows
unfolding piece after parted same value_from number_of which_of record_of version_of load_from load
rows_hold = next refl (next refl (next refl (next refl (next refl (next refl (next refl (next refl (next refl (next refl (next refl done))))))))))
