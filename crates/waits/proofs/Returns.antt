-- The CRs that end some bytes, by the last bytes.
use Prim.Native.Nat.{ℕ, zero, suc, ◌-◌, ◌≤◌}
use mathlib.Core.Path.{◌≡◌, refl, sym, ap, ◌∙◌}
use mathlib.Core.List.{List, [], ◌∷◌}
use mathlib.Core.Bool.{Bool, true, false}
use lib.ListN.{length, get_or}
use lib.Dec.{eqb}
use borrow.Author.Tests.{ne_eqb}
use native.Mathlib.Omega.{arith}
use Rattle.basics.specs.Choice.{pick, and}
use Rattle.waits.specs.Waits.{returns, last_returns}

-- how many, by the byte before the last and the last
abbrev by_two : Bool → Bool → ℕ
by_two before last = pick last (pick before 2 1) 0

-- there are two bytes or more: the last two decide
last_two : (s : List ℕ) (n : ℕ) → length s ≡ suc (suc n) → length (last_returns s) ≡ by_two (eqb (get_or s n 0) 13) (eqb (get_or s (suc n) 0) 13)
last_two [] n h = absurd (omega (arith, h))
last_two (a ∷ []) n h = absurd (omega (arith, h))
last_two (a ∷ b ∷ []) zero h = go (eqb a 13) (eqb b 13)
  where
    go : (t u : Bool) → length (pick (and t u) (a ∷ b ∷ []) (pick u (b ∷ []) [])) ≡ by_two t u
    go true true = refl
    go true false = refl
    go false true = refl
    go false false = refl
last_two (a ∷ b ∷ []) (suc n) h = absurd (omega (arith, h))
last_two (a ∷ b ∷ c ∷ s) zero h = absurd (omega (arith, h))
last_two (a ∷ b ∷ c ∷ s) (suc n) h = last_two (b ∷ c ∷ s) n (omega (arith, h))

-- there is one
last_alone : (s : List ℕ) → length s ≡ 1 → length (last_returns s) ≡ pick (eqb (get_or s 0 0) 13) 1 0
last_alone [] h = absurd (omega (arith, h))
last_alone (a ∷ []) h = go (eqb a 13)
  where
    go : (t : Bool) → length (pick t (a ∷ []) []) ≡ pick t 1 0
    go true = refl
    go false = refl
last_alone (a ∷ b ∷ s) h = absurd (omega (arith, h))

pub no_bytes : (s : List ℕ) → length s ≡ 0 → 0 ≡ length (last_returns s)
no_bytes [] h = refl
no_bytes (a ∷ s) h = absurd (omega (arith, h))

-- the last two as the code names them
module _ (s : List ℕ) (h : length s ≡ 0 → ⊥) (g : length s ≡ 1 → ⊥) where
  named : length (last_returns s) ≡ by_two (eqb (get_or s (length s - 2) 0) 13) (eqb (get_or s (length s - 1) 0) 13)
  named =
      let two : length s ≡ suc (suc (length s - 2)) = omega (arith, h, g) in
      let one : suc (length s - 2) ≡ length s - 1 = omega (arith, h, g) in
      last_two s (length s - 2) two ∙ rw one refl

  pub last_one : get_or s (length s - 1) 0 ≡ 13 → (get_or s (length s - 2) 0 ≡ 13 → ⊥) → 1 ≡ length (last_returns s)
  last_one e n = sym (named ∙ rw (e, ne_eqb (get_or s (length s - 2) 0) 13 n))

  pub last_both : get_or s (length s - 1) 0 ≡ 13 → get_or s (length s - 2) 0 ≡ 13 → 2 ≡ length (last_returns s)
  last_both e f = sym (named ∙ rw (e, f))

  other_of_two : (get_or s (length s - 1) 0 ≡ 13 → ⊥) → 0 ≡ length (last_returns s)
  other_of_two n = sym (named ∙ rw (ne_eqb (get_or s (length s - 1) 0) 13 n))

pub only_one : (s : List ℕ) → get_or s (length s - 1) 0 ≡ 13 → length s ≡ 1 → 1 ≡ length (last_returns s)
only_one s e h =
    let z : length s - 1 ≡ 0 = omega (arith, h) in
    sym (last_alone s h ∙ ap (λ (x : ℕ). pick (eqb x 13) 1 0) (ap (λ (k : ℕ). get_or s k 0) (sym z) ∙ e))

pub last_other : (s : List ℕ) → (length s ≡ 0 → ⊥) → (get_or s (length s - 1) 0 ≡ 13 → ⊥) → 0 ≡ length (last_returns s)
last_other [] h n = refl
last_other (a ∷ []) h n = sym (last_alone (a ∷ []) refl ∙ rw (ne_eqb a 13 n))
last_other (a ∷ b ∷ s) h n = other_of_two (a ∷ b ∷ s) h (λ g. omega (arith, g)) n

-- no more than the bytes
more_returns : (a : ℕ) (s : List ℕ) (t : Bool) → length (last_returns s) ≤ length s → length (pick t (a ∷ s) (last_returns s)) ≤ suc (length s)
more_returns a s true h = omega arith
more_returns a s false h = omega (arith, h)

pub few_returns : (s : List ℕ) → length (last_returns s) ≤ length s
few_returns [] = omega arith
few_returns (a ∷ s) = more_returns a s (returns (a ∷ s)) (few_returns s)
