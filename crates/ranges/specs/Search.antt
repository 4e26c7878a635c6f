-- A lent list holds the points of its pairs.
use Rattle.std.specs.Prelude.{ℕ, List, [], ◌∷◌, Bool, false}
use Rattle.basics.specs.Choice.{or}
use Rattle.basics.specs.Tests.{within}

-- some pair holds c
unfoldable pub in_pairs : (c : ℕ) → List ℕ → Bool
in_pairs c [] = false
in_pairs c (low ∷ []) = false
in_pairs c (low ∷ high ∷ l) = or (within low high c) (in_pairs c l)
