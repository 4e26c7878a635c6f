-- A SEARCH FROM THE LEFT for the first place at which a test holds: none stands before the place reached, and so on, place by place.
use Prim.Native.Nat.{ℕ, suc, ◌+◌, ◌<◌}
use mathlib.Core.Path.{◌≡◌, refl, sym, ap, ◌∙◌}
use mathlib.Core.List.{List}
use mathlib.Core.Bool.{Bool, true, false}
use lib.ListN.{length, drop}
use lib.Seq.{drop-cons}
use native.Mathlib.Omega.{arith}
use Rattle.basics.specs.Choice.{pick}
use Rattle.eaters.specs.Find.{Place, at, nowhere, further, find}
use Rattle.places.specs.Shifts.{shifted}

pub shifted_none : (q : Place) → shifted 0 q ≡ q
shifted_none (at j) = ap at (omega arith)
shifted_none nowhere = refl

pub shifted_more : (k n : ℕ) (q : Place) → shifted k (shifted n q) ≡ shifted (k + n) q
shifted_more k n (at j) = ap at (omega arith)
shifted_more k n nowhere = refl

shifted_further : (k : ℕ) (q : Place) → shifted k (further q) ≡ shifted (k + 1) q
shifted_further k (at j) = ap at (omega arith)
shifted_further k nowhere = refl

-- none of the first i places is one
abbrev pub NoneBefore : (p : List ℕ → Bool) (s : List ℕ) (i : ℕ) → Type 0
NoneBefore p s i = find p s ≡ shifted i (find p (drop i s))

pub none_before : (p : List ℕ → Bool) (s : List ℕ) → NoneBefore p s 0
none_before p s = sym (shifted_none (find p s))

module _ (p : List ℕ → Bool) (s : List ℕ) (i : ℕ) (u : NoneBefore p s i) where
  -- THIS PLACE is one, or not
  module _ (h : i < length s) where
    here : {t : Bool} → p (drop i s) ≡ t → find p (drop i s) ≡ pick t (at 0) (further (find p (drop (suc i) s)))
    unfolding find
    here e = rw (drop-cons s i 0 h) (ap (λ (b : Bool). pick b (at 0) (further (find p (drop (suc i) s)))) (rw (drop-cons s i 0 h) at e))

    pub found_here : p (drop i s) ≡ true → find p s ≡ at i
    found_here e =
        let z : i + 0 ≡ i = omega arith in
        u ∙ ap (shifted i) (here e) ∙ ap at z

    pub none_here : p (drop i s) ≡ false → NoneBefore p s (i + 1)
    none_here e =
        let a : i + 1 ≡ suc i = omega arith in
        u ∙ ap (shifted i) (here e) ∙ shifted_further i (find p (drop (suc i) s)) ∙ ap (λ (k : ℕ). shifted (i + 1) (find p (drop k s))) (sym a)

  -- NONE IS LEFT
  pub none_left : find p (drop i s) ≡ nowhere → find p s ≡ nowhere
  none_left e = u ∙ ap (shifted i) e
