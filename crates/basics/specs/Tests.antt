-- Tests of a number, and of the numbers of a list.
use Rattle.std.specs.Prelude.{ℕ, List, [], ◌∷◌, Bool, true, false, leb, eqb}
use Rattle.basics.specs.Choice.{and, or}

-- c lies from low to high, both included
abbrev pub within : ℕ → ℕ → ℕ → Bool
within low high c = and (leb low c) (leb c high)

-- c is one of the list
abbrev pub is_in : List ℕ → ℕ → Bool
is_in [] c = false
is_in (x ∷ l) c = or (eqb c x) (is_in l c)

-- p holds of every one of the list
abbrev pub all : (ℕ → Bool) → List ℕ → Bool
all p [] = true
all p (c ∷ l) = and (p c) (all p l)
