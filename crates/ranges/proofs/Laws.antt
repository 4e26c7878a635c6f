-- What the check of a list promises, and what a good list holds.
use Rattle.std.specs.Prelude.{Option, None, Some, Err}
use Prim.Native.Nat.{ℕ, suc, ◌/◌, ◌≤◌, ◌<◌}
use mathlib.Core.Path.{◌≡◌, refl, sym}
use mathlib.Core.Bool.{Bool, true, false}
use mathlib.Core.Logic.{◌⊎◌, inl, inr, ⊎_elim}
use mathlib.Core.List.{List, [], ◌∷◌}
use lib.ListN.{length}
use lib.Dec.{ltb}
use borrow.Author.Tests.{ltb-false, le-leb}
use native.Mathlib.Omega.{arith}
use Rattle.basics.specs.Choice.{pick, or}
use Rattle.basics.specs.Tests.{within}
use Rattle.basics.proofs.Choices.{below_or_not, within_true}
use Rattle.refusal.specs.declared.Bad.TheVariants as bad
use Rattle.ranges.specs.Rules.{meets, good_pair, flaw_from, flaw, list_verdict, Good}
use Rattle.ranges.specs.Search.{in_pairs}
use Rattle.ranges.proofs.Pairs.{clear_true, pair_true, count_fits, verdict_fine}
use Rattle.refusal.specs.Verdict.{fine}

-- what a good list holds: a scalar value from 0x80 on, and no whitespace
pub record Held (c : ℕ) : Type 0 where
  pub least : 0x80 ≤ c
  pub most : c ≤ 0x10FFFF
  pub scalar : (c < 0xD800) ⊎ (0xE000 ≤ c)
  pub not_85 : c ≡ 0x85 → ⊥
  pub not_200_e : c ≡ 0x200E → ⊥
  pub not_200_f : c ≡ 0x200F → ⊥
  pub not_2028 : c ≡ 0x2028 → ⊥
  pub not_2029 : c ≡ 0x2029 → ⊥

-- where the verdict is fine there is no flaw
no_flaw : (which : ℕ) (f : (Option ℕ)) → elim f [ None ↦ fine | Some k ↦ Err (bad.List which k) ] ≡ fine → f ≡ None
no_flaw which None e = refl
no_flaw which (Some k) e = let z : ◌≡◌ {A = ℕ} 0 1 = cc in absurd (omega arith)

-- a choice between a pair and another flaw, which is not a flaw
left : (t : Bool) (k : ℕ) (f : (Option ℕ)) → pick t (Some k) f ≡ None → (t ≡ false) × (f ≡ None)
left true k f e = let z : ◌≡◌ {A = ℕ} 0 1 = cc in absurd (omega arith)
left false k f e = (refl, e)

pub right : (t : Bool) (f : (Option ℕ)) (k : ℕ) → pick t f (Some k) ≡ None → (t ≡ true) × (f ≡ None)
right true f k e = (refl, e)
right false f k e = let z : ◌≡◌ {A = ℕ} 0 1 = cc in absurd (omega arith)

module _ (limit which : ℕ) (l : List ℕ) where
  fine_both : list_verdict limit which l ≡ fine → (ltb limit (length l / 2) ≡ false) × (flaw_from 0 0 l ≡ None)
  unfolding list_verdict flaw
  fine_both e = left _ _ _ (no_flaw which (flaw limit l) e)

  -- a list that the check lets through is good
  pub fine_good : list_verdict limit which l ≡ fine → Good l
  fine_good e = record { pairs = (fine_both e).1 }

  -- and it has at most `limit` pairs
  pub fine_count : list_verdict limit which l ≡ fine → length l / 2 ≤ limit
  fine_count e = ltb-false limit (length l / 2) (fine_both e).0

  -- a good list with at most `limit` pairs is let through
  pub good_fine : Good l → length l / 2 ≤ limit → list_verdict limit which l ≡ fine
  good_fine g h = sym (verdict_fine limit which l (count_fits limit l h (sym g.pairs)) refl)

-- a pair that covers no point from first to last: a point of it lies outside
module _ (first last low high c : ℕ) (e : meets first last low high ≡ false) (p : low ≤ c) (q : c ≤ high) where
  met : first ≤ c → c ≤ last → meets first last low high ≡ true
  unfolding meets
  met f g = rw (le-leb low last (omega arith), le-leb first high (omega arith))

  beyond : first ≤ c → (last < c) ⊎ (c ≤ last) → (c < first) ⊎ (last < c)
  beyond f (inl g) = inr g
  beyond f (inr g) = let m = met f g in let z : ◌≡◌ {A = ℕ} 0 1 = cc in absurd (omega arith)

  apart : (c < first) ⊎ (last < c)
  apart = ⊎_elim (λ (f : c < first). inl f) (λ (f : first ≤ c). beyond f (below_or_not last c)) (below_or_not c first)

-- so it is not a point from first to last
miss : {c first last : ℕ} (n : ℕ) → (c < first) ⊎ (last < c) → first ≤ n → n ≤ last → c ≡ n → ⊥
miss n (inl h) p q e = omega arith
miss n (inr h) p q e = omega arith

-- the points of a good pair
pair_held : (p low high c : ℕ) → good_pair p low high ≡ true → within low high c ≡ true → Held c
pair_held p low high c e w =
    let s = within_true low high c w in
    let f = pair_true p low high e in
    let g = clear_true low high f.free in
    let marks = apart 0x200E 0x200F low high c g.marks s.least s.most in
    let separators = apart 0x2028 0x2029 low high c g.separators s.least s.most in
    record {
      least = omega arith;
      most = omega arith;
      scalar = apart 0xD800 0xDFFF low high c g.surrogates s.least s.most;
      not_85 = miss 0x85 (apart 0x85 0x85 low high c g.next_line s.least s.most) (omega arith) (omega arith);
      not_200_e = miss 0x200E marks (omega arith) (omega arith);
      not_200_f = miss 0x200F marks (omega arith) (omega arith);
      not_2028 = miss 0x2028 separators (omega arith) (omega arith);
      not_2029 = miss 0x2029 separators (omega arith) (omega arith);
    }

or_split : (a b : Bool) → or a b ≡ true → (a ≡ true) ⊎ (b ≡ true)
or_split true b e = inl refl
or_split false b e = inr e

held_from : (k p c : ℕ) (l : List ℕ) → flaw_from k p l ≡ None → in_pairs c l ≡ true → Held c
unfolding flaw_from in_pairs
held_from k p c [] g e = let z : ◌≡◌ {A = ℕ} 0 1 = cc in absurd (omega arith)
held_from k p c (low ∷ []) g e = let z : ◌≡◌ {A = ℕ} 0 1 = cc in absurd (omega arith)
held_from k p c (low ∷ high ∷ l) g e =
    let b = right (good_pair p low high) (flaw_from (suc k) high l) k g in
    ⊎_elim
    (λ (w : within low high c ≡ true). pair_held p low high c b.0 w)
    (λ (w : in_pairs c l ≡ true). held_from (suc k) high c l b.1 w)
    (or_split (within low high c) (in_pairs c l) e)

-- what a search in a good list finds
pub held : {c : ℕ} {l : List ℕ} → Good l → in_pairs c l ≡ true → Held c
held {c} {l} g e = held_from 0 0 c l g.pairs e

-- an empty list breaks no rule
pub nothing_good : Good []
unfolding flaw_from
nothing_good = record { pairs = refl }
