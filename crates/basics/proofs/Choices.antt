-- Laws of choices by a test: each splits a test once, so that no other proof has to.
use Prim.Native.Nat.{ℕ, ◌≤◌, ◌<◌}
use mathlib.Core.Path.{◌≡◌, refl}
use mathlib.Core.Bool.{Bool, true, false}
use mathlib.Core.Logic.{◌⊎◌, inl, inr}
use borrow.Author.Tests.{ltb-true, ltb-false, leb-true, le-leb, lt-leb}
use lib.Dec.{ltb, leb}
use native.Mathlib.Omega.{arith}
use Rattle.basics.specs.Choice.{pick, and}
use Rattle.basics.specs.Tests.{within}

-- m is below n or not
pub below_or_not : (m n : ℕ) → (m < n) ⊎ (n ≤ m)
below_or_not m n = go (ltb m n) refl
  where
    go : (t : Bool) → ltb m n ≡ t → (m < n) ⊎ (n ≤ m)
    go true e = inl (ltb-true m n e)
    go false e = inr (ltb-false m n e)

-- a test holds or not
pub yes_or_no : (t : Bool) → (t ≡ true) ⊎ (t ≡ false)
yes_or_no true = inl refl
yes_or_no false = inr refl

pub and_1 : (a b : Bool) → and a b ≡ true → a ≡ true
and_1 true b e = refl
and_1 false b e = e

pub and_2 : (a b : Bool) → and a b ≡ true → b ≡ true
and_2 true b e = e
and_2 false true e = refl
and_2 false false e = e

pub and_both : {a b : Bool} → a ≡ true → b ≡ true → and a b ≡ true
and_both p q = rw (p, q)

-- what holds where the test holds, and where it does not, holds of the choice
pub by_pick : {A : Type 0} (P : A → Type 0) (t : Bool) (x y : A) → (t ≡ true → P x) → (t ≡ false → P y) → P (pick t x y)
by_pick P true x y f g = f refl
by_pick P false x y f g = g refl

-- within, as facts
pub record Within (low high c : ℕ) : Type 0 where
  pub least : low ≤ c
  pub most : c ≤ high

pub within_true : (low high c : ℕ) → within low high c ≡ true → Within low high c
within_true low high c e = record { least = leb-true low c (and_1 _ _ e); most = leb-true c high (and_2 (leb low c) _ e) }

pub inside_within : (low high c : ℕ) → low ≤ c → c ≤ high → within low high c ≡ true
inside_within low high c l h = rw (le-leb low c l, le-leb c high h)

pub under_within : (low high c : ℕ) → c < low → within low high c ≡ false
under_within low high c h = rw (lt-leb low c h)

pub over_within : (low high c : ℕ) → low ≤ high → high < c → within low high c ≡ false
over_within low high c l h = rw (le-leb low c (omega arith), lt-leb c high h)
