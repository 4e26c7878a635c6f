-- Std's test of a slice's start is the book's.
use Prim.Native.Nat.{ℕ}
use mathlib.Core.Path.{◌≡◌, refl, sym, ◌∙◌}
use mathlib.Core.Bool.{Bool, true, false, true≢false, ◌&&◌}
use mathlib.Core.List.{List, [], ◌∷◌}
use lib.Dec.{eqb}
use borrow.Author.Tests.{eq-eqb, ne_eqb, eqb-true}
use Rattle.std.specs.List.{starts_with}
use Rattle.basics.specs.Choice.{and}
use Rattle.eaters.specs.Look.{begins}

eqb_swap : (x y : ℕ) → eqb x y ≡ eqb y x
eqb_swap x y = go (eqb x y) refl
  where
    go : (t : Bool) → eqb x y ≡ t → t ≡ eqb y x
    go true e = sym (eq-eqb y x (sym (eqb-true x y e)))
    go false e = sym (ne_eqb y x (λ q. true≢false (sym (eq-eqb x y (sym q)) ∙ e)))

pub begins_with : (l s : List ℕ) → starts_with eqb s l ≡ begins l s
begins_with [] s = refl
begins_with (x ∷ l) [] = refl
begins_with (x ∷ l) (c ∷ s) = rw (eqb_swap x c) (go (eqb c x) (begins_with l s))
  where
    go : (t : Bool) → starts_with eqb s l ≡ begins l s → (t && starts_with eqb s l) ≡ and t (begins l s)
    go true e = e
    go false e = refl
