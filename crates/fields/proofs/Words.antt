-- A word is the same as another exactly where the test says so.
use Prim.Native.Nat.{ℕ}
use mathlib.Core.Path.{◌≡◌, refl}
use mathlib.Core.Bool.{Bool, true, false}
use mathlib.Core.List.{List, [], ◌∷◌}
use borrow.Author.Tests.{eq-eqb, eqb-true}
use lib.Dec.{eqb}
use Rattle.basics.proofs.Choices.{and_1, and_2}
use Rattle.fields.specs.Words.{same}

pub same_self : (s : List ℕ) → same s s ≡ true
unfolding same
same_self [] = refl
same_self (c ∷ s) = rw (eq-eqb c c refl, same_self s) refl

pub same_true : (s t : List ℕ) → same s t ≡ true → s ≡ t
unfolding same
same_true [] [] e = refl
same_true [] (d ∷ t) e = absurd (cc)
same_true (c ∷ s) [] e = absurd (cc)
same_true (c ∷ s) (d ∷ t) e =
    let h : c ≡ d = eqb-true c d (and_1 _ _ e) in
    let i : s ≡ t = same_true s t (and_2 (eqb c d) _ e) in
    cc

-- a test that is true exactly of the same words is this one
pub word_told : (s t : List ℕ) {r : Bool} → (r ≡ true → s ≡ t) → (s ≡ t → r ≡ true) → r ≡ same s t
word_told s t {r} f g = by_both r (same s t) f g (same_true s t) (λ (e : s ≡ t). rw e (same_self t))
  where
    by_both : (r q : Bool) → (r ≡ true → s ≡ t) → (s ≡ t → r ≡ true) → (q ≡ true → s ≡ t) → (s ≡ t → q ≡ true) → r ≡ q
    by_both true true f g h k = refl
    by_both true false f g h k = let z : false ≡ true = k (f refl) in cc
    by_both false true f g h k = let z : false ≡ true = g (h refl) in cc
    by_both false false f g h k = refl
