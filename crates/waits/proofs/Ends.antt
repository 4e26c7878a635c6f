-- THE CRs THAT END SOME BYTES: which they may be, where they begin, and what becomes of them when more bytes come.
use Prim.Native.Nat.{ℕ, suc, ◌-◌}
use mathlib.Core.Path.{◌≡◌, refl, sym, ap, subst, ◌∙◌}
use mathlib.Core.List.{List, [], ◌∷◌, ◌++◌}
use mathlib.Core.Bool.{Bool, true, false}
use lib.ListN.{length, drop}
use lib.Dec.{eqb}
use borrow.Author.Tests.{eqb-true}
use native.Mathlib.Omega.{arith}
use Rattle.basics.specs.Choice.{pick}
use Rattle.basics.proofs.Choices.{and_1, and_2}
use Rattle.token.specs.Names.{'carriage_return'}
use Rattle.waits.specs.Waits.{returns, last_returns}
use Rattle.waits.proofs.Returns.{few_returns}

-- none, one or two
pub data Returned : List ℕ → Type 0 where
  none : Returned []
  one : Returned ('carriage_return' ∷ [])
  two : Returned ('carriage_return' ∷ 'carriage_return' ∷ [])

returned : (s : List ℕ) → returns s ≡ true → Returned s
returned [] e = none
returned (a ∷ []) e = subst (λ (x : ℕ). Returned (x ∷ [])) (sym (eqb-true a 13 e)) one
returned (a ∷ b ∷ []) e =
    subst (λ (x : ℕ). Returned (x ∷ b ∷ [])) (sym (eqb-true a 13 (and_1 (eqb a 13) (eqb b 13) e)))
    (subst (λ (x : ℕ). Returned ('carriage_return' ∷ x ∷ [])) (sym (eqb-true b 13 (and_2 (eqb a 13) (eqb b 13) e))) two)
returned (a ∷ b ∷ c ∷ s) e = absurd (let z : ◌≡◌ {A = ℕ} 0 1 = cc in omega arith)

by_returns : (a : ℕ) (s : List ℕ) (t : Bool) → returns (a ∷ s) ≡ t → Returned (last_returns s) → Returned (pick t (a ∷ s) (last_returns s))
by_returns a s true e h = returned (a ∷ s) e
by_returns a s false e h = h

pub last_returned : (s : List ℕ) → Returned (last_returns s)
last_returned [] = none
last_returned (a ∷ s) = by_returns a s (returns (a ∷ s)) refl (last_returned s)

-- they are the end
by_end : (a : ℕ) (s : List ℕ) (t : Bool) → drop (length s - length (last_returns s)) s ≡ last_returns s
    → drop (suc (length s) - length (pick t (a ∷ s) (last_returns s))) (a ∷ s) ≡ pick t (a ∷ s) (last_returns s)
by_end a s true h = let z : suc (length s) - suc (length s) ≡ 0 = omega arith in rw z
by_end a s false h = let z : suc (length s) - length (last_returns s) ≡ suc (length s - length (last_returns s)) = omega (arith, few_returns s) in rw z h

pub last_drop : (s : List ℕ) → drop (length s - length (last_returns s)) s ≡ last_returns s
last_drop [] = refl
last_drop (a ∷ s) = by_end a s (returns (a ∷ s)) (last_drop s)

-- MORE BYTES: what did not wait does not wait
still : (a : ℕ) (s t : List ℕ) → returns (a ∷ s) ≡ false → returns (a ∷ s ++ t) ≡ false
still a [] [] e = e
still a [] (b ∷ []) e = rw e
still a [] (b ∷ c ∷ t) e = refl
still a (b ∷ []) [] e = e
still a (b ∷ []) (c ∷ t) e = refl
still a (b ∷ c ∷ s) t e = refl

by_more : (a : ℕ) (s t : List ℕ) (x : Bool) → returns (a ∷ s) ≡ x → last_returns (s ++ t) ≡ last_returns (last_returns s ++ t)
    → last_returns (a ∷ s ++ t) ≡ last_returns (pick x (a ∷ s) (last_returns s) ++ t)
by_more a s t true e h = refl
by_more a s t false e h = rw (still a s t e) h

pub last_append : (s t : List ℕ) → last_returns (s ++ t) ≡ last_returns (last_returns s ++ t)
last_append [] t = refl
last_append (a ∷ s) t = by_more a s t (returns (a ∷ s)) refl (last_append s t)

-- BEFORE ONE CR that is the only one stands none
lone : {k : List ℕ} → Returned k → length (last_returns (k ++ 'carriage_return' ∷ [])) ≡ 1 → k ≡ []
lone none e = refl
lone one e = absurd (omega (arith, e))
lone two e = absurd (omega (arith, e))

pub last_lone : (s : List ℕ) → length (last_returns (s ++ 'carriage_return' ∷ [])) ≡ 1 → last_returns s ≡ []
last_lone s e = lone (last_returned s) (ap length (sym (last_append s ('carriage_return' ∷ []))) ∙ e)
