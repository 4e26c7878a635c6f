-- What is found tells the place.
use Rattle.std.specs.Prelude.{Option, None, Some}
use Prim.Native.Nat.{ℕ}
use mathlib.Core.Path.{◌≡◌, refl, sym, ap}
use mathlib.Core.Bool.{Bool, true, false, true≢false}
use Rattle.eaters.specs.Find.{Place, at, nowhere}
use Rattle.places.specs.Found.{found_at}

abbrev is_at : Option ℕ → Bool
is_at (Some k) = true
is_at None = false

abbrev place_in : Option ℕ → ℕ
place_in (Some k) = k
place_in None = 0

pub found_at_lem : (p : Place) (k : ℕ) → found_at p ≡ Some k → p ≡ at k
found_at_lem (at j) k e = ap at (ap place_in e)
found_at_lem nowhere k e = absurd (true≢false (sym (ap is_at e)))

pub found_nowhere : (p : Place) → found_at p ≡ None → p ≡ nowhere
found_nowhere (at j) e = absurd (true≢false (ap is_at e))
found_nowhere nowhere e = refl
