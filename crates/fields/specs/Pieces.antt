-- A text parted at a mark, which is one byte: LF ends a line, and a tab stands between two fields.
use Rattle.std.specs.Prelude.{ℕ, ◌≡◌, true, List, [], ◌∷◌, eqb}
use Rattle.basics.specs.Choice.{pick}
use Rattle.basics.specs.Tests.{is_in}

-- the bytes before the first mark; all of them where there is none
unfoldable pub piece : (mark : ℕ) → List ℕ → List ℕ
piece mark [] = []
piece mark (c ∷ s) = pick (eqb c mark) [] (c ∷ piece mark s)

-- the bytes after the first mark; none where there is none
unfoldable pub after : (mark : ℕ) → List ℕ → List ℕ
after mark [] = []
after mark (c ∷ s) = pick (eqb c mark) s (after mark s)

-- what is made of the bytes before the first mark and those after it, or something else where there is none
abbrev pub if_cut : {A : Type 0} → (mark : ℕ) → List ℕ → A → (List ℕ → List ℕ → A) → A
if_cut mark s none some = pick (is_in s mark) (some (piece mark s) (after mark s)) none

-- a text has the mark, and these are its bytes before the first mark and those after it
pub record CutInto (mark : ℕ) (s before behind : List ℕ) : Type 0 where
  pub marked : is_in s mark ≡ true
  pub before_it : before ≡ piece mark s
  pub behind_it : behind ≡ after mark s

-- the pieces of a text that end with a mark, each without it, and what stands after the last mark
pub record Parted : Type 0 where
  pub ended : List (List ℕ)
  pub rest : List ℕ

abbrev pub parts : List (List ℕ) → List ℕ → Parted
parts ended rest = record { ended = ended; rest = rest }

-- one byte more in front: of the first piece, or of what is the rest where there is no piece
abbrev pub onto : ℕ → List (List ℕ) → List ℕ → Parted
onto c [] rest = parts [] (c ∷ rest)
onto c (p ∷ ps) rest = parts ((c ∷ p) ∷ ps) rest

unfoldable pub parted : (mark : ℕ) → List ℕ → Parted
parted mark [] = parts [] []
parted mark (c ∷ s) =
    pick (eqb c mark) (parts ([] ∷ (parted mark s).ended) (parted mark s).rest) (onto c (parted mark s).ended (parted mark s).rest)
