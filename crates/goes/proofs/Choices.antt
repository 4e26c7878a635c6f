-- A function of a choice among several: the machine chooses what is done, an answer is chosen and says what is done.
use mathlib.Core.Path.{◌≡◌, refl, ap, ◌∙◌}
use mathlib.Core.List.{List, [], ◌∷◌}
use mathlib.Core.Bool.{Bool, true, false}
use Rattle.basics.specs.Choice.{pick}

-- the first whose test holds, or else z
abbrev first_of : {A : Type 0} → List (Bool × A) → (z : A) → A
first_of [] z = z
first_of (x ∷ xs) z = pick x.0 x.1 (first_of xs z)

abbrev each : {A B : Type 0} → (A → B) → List (Bool × A) → List (Bool × B)
each f [] = []
each f (x ∷ xs) = (x.0, f x.1) ∷ each f xs

pub of_first : {A B : Type 0} (f : A → B) (xs : List (Bool × A)) (z : A) → f (first_of xs z) ≡ first_of (each f xs) (f z)
of_first f [] z = refl
of_first f ((true, x) ∷ xs) z = refl
of_first f ((false, x) ∷ xs) z = of_first f xs z

-- and what the last one is, in other words
pub of_first_as : {A B : Type 0} (f : A → B) (xs : List (Bool × A)) {z : A} {y : B} (e : f z ≡ y) → f (first_of xs z) ≡ first_of (each f xs) y
of_first_as f xs {z} e = of_first f xs z ∙ ap (first_of (each f xs)) e
