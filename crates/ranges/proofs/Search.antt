-- THE SEARCH by halving: the order of a good list's pairs, what a list holds pair by pair, and what the loop keeps.
use Prim.Native.Nat.{ℕ, zero, suc, ◌+◌, ◌-◌, ◌*◌, ◌/◌, ◌≤◌, ◌<◌}
use mathlib.Core.Path.{◌≡◌, refl, sym, ap, ◌∙◌}
use mathlib.Core.Bool.{true, false}
use mathlib.Core.Logic.{⊎_elim}
use mathlib.Core.List.{List, [], ◌∷◌}
use lib.ListN.{length, get_or, drop, length-drop}
use native.Mathlib.Nat.{le_refl}
use native.Mathlib.Numerals.{add-one}
use native.Mathlib.Omega.{arith}
use Rattle.basics.specs.Choice.{or}
use Rattle.basics.specs.Tests.{within}
use Rattle.basics.proofs.Choices.{below_or_not, yes_or_no, inside_within, under_within, over_within}
use Rattle.ranges.specs.Rules.{good_pair, Good}
use Rattle.ranges.specs.Search.{in_pairs}
use Rattle.ranges.proofs.Pairs.{Fits, pair_true, pair_at, Checked, check_start, checked_at, check_stop, check_on}

-- the two ends of pair k
abbrev low : List ℕ → ℕ → ℕ
low l k = get_or l (k * 2) 0

abbrev high : List ℕ → ℕ → ℕ
high l k = get_or l (k * 2 + 1) 0

-- where the pair before pair k ends (0 before the first)
previous : List ℕ → ℕ → ℕ
previous l zero = 0
previous l (suc k) = high l k

-- THE ORDER of a good list
module _ {l : List ℕ} (g : Good l) where
  -- a pair to which the check comes is let through
  obeys : {p k : ℕ} → Checked l p k (drop (k * 2) l) → k < length l / 2 → good_pair p (low l k) (high l k) ≡ true
  obeys {p} {k} w h =
      ⊎_elim
      (λ (e : _). e)
      (λ (e : good_pair p (low l k) (high l k) ≡ false).
      let s = check_stop (checked_at w h) refl (rw e) in
      let z : ◌≡◌ {A = ℕ} 0 1 = cc g.pairs in
      absurd (omega arith))
      (yes_or_no (good_pair p (low l k) (high l k)))

  -- so the check comes to every pair
  reached : (k : ℕ) → k ≤ length l / 2 → Checked l (previous l k) k (drop (k * 2) l)
  unfolding previous
  reached zero h = check_start l
  reached (suc k) h =
      let w = reached k (omega arith) in
      rw (add-one k) at (check_on (checked_at w (omega arith)) refl (rw (obeys w (omega arith))))

  -- and every pair obeys the rules
  fits : (k : ℕ) → k < length l / 2 → Fits (previous l k) (low l k) (high l k)
  fits k h = pair_true _ _ _ (obeys (reached k (omega arith)) h)

  -- both ends of a pair are at most those of the pair n further on
  rise : (n k m : ℕ) → k + n ≡ m → m < length l / 2 → (low l k ≤ low l m) × (high l k ≤ high l m)
  unfolding previous
  rise zero k m e h =
      let q : k ≡ m = omega arith in
      rw q (le_refl _, le_refl _)
  rise (suc n) k m e h =
      let r = rise n (suc k) m (omega arith) h in
      let f = fits k (omega arith) in
      let s = fits (suc k) (omega arith) in
      (omega arith, omega arith)

-- WHAT A LIST HOLDS, pair by pair
held_pair : (c a b : ℕ) (l : List ℕ) → in_pairs c (a ∷ b ∷ l) ≡ or (within a b c) (in_pairs c l)
unfolding in_pairs
held_pair c a b l = refl

held_end : (c : ℕ) (l : List ℕ) → length l < 2 → in_pairs c l ≡ false
unfolding in_pairs
held_end c [] h = refl
held_end c (a ∷ []) h = refl
held_end c (a ∷ b ∷ l) h = absurd (omega arith)

module _ (c : ℕ) (l : List ℕ) where
  -- pair k holds c, or a later one does
  look : (k : ℕ) → k < length l / 2
      → in_pairs c (drop (k * 2) l) ≡ or (within (low l k) (high l k) c) (in_pairs c (drop ((k + 1) * 2) l))
  look k h = ap (in_pairs c) (pair_at l k h) ∙ held_pair c _ _ _

  -- what the pairs from pair k on hold, the list holds
  part : (k : ℕ) → k ≤ length l / 2 → in_pairs c (drop (k * 2) l) ≡ true → in_pairs c l ≡ true
  part zero h e = e
  part (suc k) h e =
      part k (omega arith)
      (⊎_elim
      (λ (t : within (low l k) (high l k) c ≡ true). look k (omega arith) ∙ rw t)
      (λ (t : within (low l k) (high l k) c ≡ false). look k (omega arith) ∙ rw (t, add-one k) e)
      (yes_or_no (within (low l k) (high l k) c)))

  -- where no pair holds c, the last n pairs do not
  none : ((k : ℕ) → k < length l / 2 → within (low l k) (high l k) c ≡ false)
      → (n k : ℕ) → k + n ≡ length l / 2 → in_pairs c (drop (k * 2) l) ≡ false
  none f zero k e = held_end c (drop (k * 2) l) (rw length-drop (omega arith))
  none f (suc n) k e = look k (omega arith) ∙ rw (f k (omega arith)) (none f n (k + 1) (omega arith))

-- WHAT THE LOOP KEEPS: the pairs before pair `begin` lie below c, those from pair `end` on above it
pub record Between (c : ℕ) (l : List ℕ) (begin end : ℕ) : Type 0 where
  pub below : (k : ℕ) → k < begin → high l k < c
  pub above : (k : ℕ) → end ≤ k → k < length l / 2 → c < low l k
  pub order : begin ≤ end
  pub room : end ≤ length l / 2

pub seek_start : {c : ℕ} {l : List ℕ} {end : ℕ} → end ≡ length l / 2 → Between c l 0 end
seek_start e =
    record {
      below = λ k h. absurd (omega arith);
      above = λ k h p. absurd (omega arith);
      order = omega arith;
      room = omega arith;
    }

-- a turn: c lies below pair m, or above it, and the bound on that side is moved up to it
module _ {c : ℕ} {l : List ℕ} {begin end : ℕ} (g : Good l) (w : Between c l begin end) {m n : ℕ} where
  pub seek_below : c < low l m → m ≤ n → begin ≤ n → n ≤ end → Between c l begin n
  seek_below p q r s =
      record {
        below = w.below;
        above = λ k t u. omega (arith, (rise g (k - m) m k (omega arith) u).0);
        order = r;
        room = omega (arith, w.room);
      }

  pub seek_above : high l m < c → n ≤ m + 1 → m < end → n ≤ end → Between c l n end
  seek_above p q r s =
      record {
        below = λ k t. omega (arith, (rise g (m - k) k m (omega arith) (omega (arith, w.room))).1);
        above = w.above;
        order = s;
        room = w.room;
      }

-- or pair m holds it
pub seek_hit : {c : ℕ} (l : List ℕ) (m : ℕ) → low l m ≤ c → c ≤ high l m → m < length l / 2 → true ≡ in_pairs c l
seek_hit {c} l m p q h = sym (part c l m (omega arith) (look c l m h ∙ rw (inside_within _ _ c p q)))

-- or no pair is left
pub seek_end : {c : ℕ} {l : List ℕ} {begin end : ℕ} → Good l → Between c l begin end → end ≤ begin → false ≡ in_pairs c l
seek_end {c} {l} {begin} {end} g w h = sym (none c l apart (length l / 2) 0 (omega arith))
  where
    apart : (k : ℕ) → k < length l / 2 → within (low l k) (high l k) c ≡ false
    apart k r =
        ⊎_elim
        (λ (q : k < begin). over_within _ _ c (fits g k r).order (w.below k q))
        (λ (q : begin ≤ k). under_within _ _ c (w.above k (omega arith) r))
        (below_or_not k begin)
