-- Small laws on eaters, for all modes: what a rule takes with one character more or less, and which way a look goes at a character that is there.
use Prim.Native.Nat.{ℕ, suc, ◌+◌, pred}
use mathlib.Core.Path.{◌≡◌, refl, sym, ap, ◌∙◌}
use mathlib.Core.List.{List, [], ◌∷◌}
use mathlib.Core.Bool.{Bool, true, false, not}
use lib.ListN.{get_or}
use native.Mathlib.Omega.{arith}
use Rattle.basics.specs.Choice.{pick, and, or}
use Rattle.eaters.specs.Eat.{Got, Eater, eat, ◌>>=◌, ◌>>◌}
use Rattle.eaters.specs.Look.{if_at, if_two}
use Rattle.eaters.specs.Scan.{Turn, scan}
use Rattle.canon.proofs.Sounds.{false_true}

pub not_not : (b : Bool) → not (not b) ≡ b
not_not true = refl
not_not false = refl

-- sums that do not compute by themselves
pub suc_add : (a b : ℕ) → suc a + b ≡ suc (a + b)
suc_add a b = omega arith

pub one_add : (a : ℕ) → 1 + a ≡ suc a
one_add a = omega arith

pub two_add : (a : ℕ) → 2 + a ≡ suc (suc a)
two_add a = omega arith

-- what a choice that failed says of its parts
pub left : (s t : Bool) → or s t ≡ false → s ≡ false
left true t e = e
left false t e = refl

pub right : (s t : Bool) → or s t ≡ false → t ≡ false
right true t e = false_true (sym e)
right false t e = e

pub or_or : (x y z : Bool) → or x (or y z) ≡ or (or x y) z
or_or true y z = refl
or_or false y z = refl

-- with one character more before, and with one less
abbrev pub more : {A : Type 0} → Got A → Got A
more g = record { took = suc g.took; said = g.said }

abbrev pub less : {A : Type 0} → Got A → Got A
less g = record { took = pred g.took; said = g.said }

pub more_less : {A : Type 0} (g : Got A) (n : ℕ) → g.took ≡ suc n → g ≡ more (less g)
more_less {A} g n e = ap (λ (k : ℕ). record { took = k; said = g.said }) (e ∙ ap (λ (k : ℕ). suc (pred k)) (sym e))

-- nothing is left to take, and the token is whole
abbrev pub here : Got Bool
here = record { took = 0; said = true }

-- a scan that is done takes nothing
pub done : (t : ℕ → ℕ → ℕ → Turn) (cs : List ℕ) → scan t 0 0 cs ≡ here
unfolding scan
done t [] = refl
done t (c ∷ cs) = refl

pub or_no : {s t : Bool} → s ≡ false → t ≡ false → or s t ≡ false
or_no e f = rw (e, f)

-- one character, then a rule
pub one_then : {A : Type 0} (m : Eater A) (c : ℕ) (cs : List ℕ) → (eat 1 >> m) (c ∷ cs) ≡ more (m cs)
unfolding ◌>>=◌ eat
one_then m c cs = rw one_add

module _ {A : Type 0} (p q : ℕ → Bool) (x y : Eater A) (c : ℕ) (cs : List ℕ) where
  -- a look at two characters
  pub two_no : p c ≡ false → if_two p q x y (c ∷ cs) ≡ y (c ∷ cs)
  unfolding if_two
  two_no e = rw e

  pub two_not : q (get_or cs 0 0) ≡ false → if_two p q x y (c ∷ cs) ≡ y (c ∷ cs)
  unfolding if_two
  two_not e = go (p c)
    where
      go : (s : Bool) → pick (and s (q (get_or cs 0 0))) (x (c ∷ cs)) (y (c ∷ cs)) ≡ y (c ∷ cs)
      go true = rw e
      go false = refl

  pub two_yes : p c ≡ true → q (get_or cs 0 0) ≡ true → if_two p q x y (c ∷ cs) ≡ x (c ∷ cs)
  unfolding if_two
  two_yes e f = rw (e, f)

module _ {A : Type 0} (p : ℕ → Bool) (x y : Eater A) (c : ℕ) (cs : List ℕ) where
  -- a look at one
  pub if_no : p c ≡ false → if_at p x y (c ∷ cs) ≡ y (c ∷ cs)
  unfolding if_at
  if_no e = rw e

  pub if_yes : p c ≡ true → if_at p x y (c ∷ cs) ≡ x (c ∷ cs)
  unfolding if_at
  if_yes e = rw e
