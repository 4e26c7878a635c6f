-- A PAIR CUT IN TWO that adjoin, as unmerged lines of Unicode's files have it: a good list stays good, and holds what it held.
use Rattle.std.specs.Prelude.{None}
use Prim.Native.Nat.{ℕ, suc, ◌%◌, ◌≤◌, ◌<◌}
use mathlib.Core.Path.{◌≡◌, refl, sym, ap, ◌∙◌}
use mathlib.Core.Bool.{Bool}
use mathlib.Core.Logic.{◌⊎◌, inl, inr}
use mathlib.Core.List.{List, [], ◌∷◌, ◌++◌}
use lib.ListN.{length}
use native.Mathlib.Nat.{le_refl}
use native.Mathlib.Omega.{arith}
use Rattle.basics.specs.Choice.{or}
use Rattle.basics.specs.Tests.{within}
use Rattle.basics.proofs.Choices.{below_or_not, inside_within, under_within, over_within}
use Rattle.ranges.specs.Rules.{good_pair, flaw_from, Good}
use Rattle.ranges.specs.Search.{in_pairs}
use Rattle.ranges.proofs.Pairs.{pair_true, pair_part}
use Rattle.ranges.proofs.Laws.{right}

-- which index a list begins with does not matter where it has no flaw
any_index : (i j p : ℕ) (l : List ℕ) → flaw_from i p l ≡ None → flaw_from j p l ≡ None
unfolding flaw_from
any_index i j p [] e = refl
any_index i j p (a ∷ []) e = let z : ◌≡◌ {A = ℕ} 0 1 = cc in absurd (omega arith)
any_index i j p (a ∷ b ∷ l) e =
    let f = right (good_pair p a b) (flaw_from (suc i) b l) i e in
    rw f.0 (any_index (suc i) (suc j) b l f.1)

module _ (low middle high : ℕ) (lower : low ≤ middle) (upper : middle < high) (after : List ℕ) where
  abbrev whole : List ℕ
  whole = low ∷ high ∷ after

  abbrev parts : List ℕ
  parts = low ∷ middle ∷ suc middle ∷ high ∷ after

  -- a point past the middle lies in the pair where it lies in the second part, any other where it lies in the first
  second : (c : ℕ) → middle < c → (high < c) ⊎ (c ≤ high) → within (suc middle) high c ≡ within low high c
  second c h (inl k) = over_within (suc middle) high c (omega arith) k ∙ sym (over_within low high c (omega arith) k)
  second c h (inr k) = inside_within (suc middle) high c (omega arith) k ∙ sym (inside_within low high c (omega arith) k)

  first : (c : ℕ) → c ≤ middle → (c < low) ⊎ (low ≤ c) → within low middle c ≡ within low high c
  first c h (inl k) = under_within low middle c k ∙ sym (under_within low high c k)
  first c h (inr k) = inside_within low middle c k h ∙ sym (inside_within low high c k (omega arith))

  both : (c : ℕ) (rest : Bool) → (middle < c) ⊎ (c ≤ middle) → or (within low middle c) (or (within (suc middle) high c) rest) ≡ or (within low high c) rest
  both c rest (inl h) = rw (over_within low middle c lower h, second c h (below_or_not high c)) refl
  both c rest (inr h) = rw (under_within (suc middle) high c (omega arith), first c h (below_or_not c low)) refl

  -- IT HOLDS WHAT IT HELD
  pub cut_held : (c : ℕ) (before : List ℕ) → length before % 2 ≡ 0 → in_pairs c (before ++ parts) ≡ in_pairs c (before ++ whole)
  unfolding in_pairs
  cut_held c [] e = both c (in_pairs c after) (below_or_not middle c)
  cut_held c (a ∷ []) e = absurd (omega arith)
  cut_held c (a ∷ b ∷ before) e = ap (or (within a b c)) (cut_held c before (omega arith))

  -- IT STAYS GOOD
  parts_good : (i j p : ℕ) (before : List ℕ) → length before % 2 ≡ 0 → flaw_from i p (before ++ whole) ≡ None → flaw_from j p (before ++ parts) ≡ None
  unfolding flaw_from
  parts_good i j p [] e g =
      let f = right (good_pair p low high) (flaw_from (suc i) high after) i g in
      let t = pair_true p low high f.0 in
      rw (pair_part p low high p low middle f.0 (le_refl low) lower (omega arith) t.above, pair_part p low high middle (suc middle) high f.0 (omega arith) (omega arith) (le_refl high) (omega arith))
      (any_index (suc i) (suc (suc j)) high after f.1)
  parts_good i j p (a ∷ []) e g = absurd (omega arith)
  parts_good i j p (a ∷ b ∷ before) e g =
      let f = right (good_pair p a b) (flaw_from (suc i) b (before ++ whole)) i g in
      rw f.0 (parts_good (suc i) (suc j) b before (omega arith) f.1)

  pub cut_good : (before : List ℕ) → length before % 2 ≡ 0 → Good (before ++ whole) → Good (before ++ parts)
  cut_good before e g = record { pairs = parts_good 0 0 0 before e g.pairs }
