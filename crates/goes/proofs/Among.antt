-- Modes that are among some, in the facts of a `match`: what is among two lists is among what they share.
use Prim.Native.Nat.{ℕ}
use mathlib.Core.Path.{◌≡◌, refl, sym, subst}
use mathlib.Core.List.{List, [], ◌∷◌}
use mathlib.Core.Bool.{Bool, true, false, not, ◌||◌}
use lib.Dec.{T, eqb}
use mir.Val.{has_key}
use borrow.Author.Tests.{eqb-true}
use types.Run.{OneOf, hit, miss}

abbrev keep : Bool → ℕ → List ℕ → List ℕ
keep true x zs = x ∷ zs
keep false x zs = zs

-- the numbers of the first list that are in the second
abbrev common : (xs ys : List ℕ) → List ℕ
common [] ys = []
common (x ∷ xs) ys = keep (has_key ys x) x (common xs ys)

kept : (x n : ℕ) (e : Bool) → eqb x n ≡ e → (zs : List ℕ) (b : Bool) → (e ≡ true → T b) → (e ≡ false → T (has_key zs n)) → T (has_key (keep b x zs) n)
kept x n true q zs true h k = rw q tt
kept x n true q zs false h k = absurd (h refl)
kept x n false q zs true h k = rw q (k refl)
kept x n false q zs false h k = k refl

keys : (xs ys : List ℕ) (n : ℕ) → T (has_key xs n) → T (has_key ys n) → T (has_key (common xs ys) n)
keys [] ys n h k = h
keys (x ∷ xs) ys n h k =
    kept x n (eqb x n) refl (common xs ys) (has_key ys x) (λ q. subst (λ (m : ℕ). T (has_key ys m)) (sym (eqb-true x n q)) k) (λ q. keys xs ys n (subst (λ (b : Bool). T (b || has_key xs n)) q h) k)

told : (xs : List ℕ) (n : ℕ) (b : Bool) → has_key xs n ≡ b → OneOf xs n → T b
told xs n true e h = tt
told xs n false e h = miss xs n (subst (λ (b : Bool). T (not b)) (sym e) tt) h

pub both : (xs ys : List ℕ) (n : ℕ) → OneOf xs n → OneOf ys n → OneOf (common xs ys) n
both xs ys n h k = hit (common xs ys) n (keys xs ys n (told xs n (has_key xs n) refl h) (told ys n (has_key ys n) refl k))
