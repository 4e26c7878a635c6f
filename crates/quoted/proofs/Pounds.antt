-- Counting hashes, some at the most, in the facts of the code.
use Prim.Native.Nat.{ℕ, zero, suc, ◌+◌, ◌-◌, ◌≤◌, ◌<◌}
use mathlib.Core.Path.{◌≡◌, refl, sym, ap, ◌∙◌}
use mathlib.Core.List.{List, [], ◌∷◌}
use lib.ListN.{length}
use native.Mathlib.Omega.{arith}
use borrow.Author.Tests.{ne_eqb}
use Rattle.eaters.specs.Eat.{take_most, while_most}
use Rattle.token.specs.Names.{is, '#'}
use Rattle.cursor.specs.declared.Cursor.{Cursor}
use Rattle.std.specs.Prelude.{Option, None, Some}
use Rattle.cursor.specs.Cursors.{rest, Seen}
use Rattle.cursor.specs.Moved.{Moved, start, over, onward, arrive}
use Rattle.cursor.specs.Ran.{left}
use Rattle.cursor.proofs.Moves.{char_at, end_at}
use Rattle.quoted.specs.Raws.{CountedMost}

-- AT MOST m HASHES: n are counted, so m - n may still come
abbrev pub most : ℕ → List ℕ → ℕ
most k cs = length (take_most k (is '#') cs)

abbrev pub left_most : ℕ → List ℕ → List ℕ
left_most k cs = left (while_most k (is '#')) cs

most_on : (k c : ℕ) (cs : List ℕ) → c ≡ 0x23 → most (suc k) (c ∷ cs) ≡ suc (most k cs)
most_on k c cs e = rw e

most_off : (k c : ℕ) (cs : List ℕ) → (c ≡ 0x23 → ⊥) → most (suc k) (c ∷ cs) ≡ 0
most_off k c cs n = rw (ne_eqb c 0x23 n)

left_on : (k c : ℕ) (cs : List ℕ) → c ≡ 0x23 → left_most (suc k) (c ∷ cs) ≡ left_most k cs
unfolding while_most
left_on k c cs e = rw e

left_off : (k c : ℕ) (cs : List ℕ) → (c ≡ 0x23 → ⊥) → left_most (suc k) (c ∷ cs) ≡ c ∷ cs
unfolding while_most
left_off k c cs n = rw (ne_eqb c 0x23 n)

left_none : (k : ℕ) → left_most k [] ≡ []
unfolding while_most
left_none zero = refl
left_none (suc k) = refl

most_none : (k : ℕ) → most k [] ≡ 0
most_none zero = refl
most_none (suc k) = refl

left_done : (cs : List ℕ) → left_most 0 cs ≡ cs
unfolding while_most
left_done cs = refl

pub record CountingMost (m : ℕ) (s : List ℕ) (a b : Cursor) (n : ℕ) : Type 0 where
  pub moved : Moved s a b (rest s b)
  pub same : left_most (m - n) (rest s b) ≡ left_most m (rest s a)
  pub count : n + most (m - n) (rest s b) ≡ most m (rest s a)
  pub few : n ≤ m

pub most_start : (m : ℕ) (s : List ℕ) (a : Cursor) → CountingMost m s a a 0
most_start m s a =
    let z : m - 0 ≡ m = omega arith in
    record { moved = start s a; same = ap (λ (k : ℕ). left_most k (rest s a)) z; count = omega (arith, ap (λ (k : ℕ). most k (rest s a)) z); few = omega arith }

module _ (m : ℕ) {s : List ℕ} {a b : Cursor} {n : ℕ} (i : CountingMost m s a b n) where
  module _ (l : n < m) {r : Option (ℕ × Cursor)} (h : Seen s b r) where
    next_left : m - n ≡ suc (m - (n + 1))
    next_left = omega arith

    module _ {x : ℕ} {d : Cursor} (e : r ≡ Some (x, d)) where
      here_left : left_most (m - n) (rest s b) ≡ left_most (suc (m - (n + 1))) (x ∷ rest s d)
      here_left = ap (λ (k : ℕ). left_most k (rest s b)) next_left ∙ ap (left_most (suc (m - (n + 1)))) (char_at e h).chars

      here_most : most (m - n) (rest s b) ≡ most (suc (m - (n + 1))) (x ∷ rest s d)
      here_most = ap (λ (k : ℕ). most k (rest s b)) next_left ∙ ap (most (suc (m - (n + 1)))) (char_at e h).chars

      pub most_more : x ≡ 0x23 → CountingMost m s a d (n + 1)
      most_more q =
          record {
            moved = onward i.moved (over (char_at e h));
            same = sym (left_on (m - (n + 1)) x (rest s d) q) ∙ sym here_left ∙ i.same;
            count = omega (arith, i.count, here_most, most_on (m - (n + 1)) x (rest s d) q);
            few = omega arith;
          }

      another : (x ≡ 0x23 → ⊥) → CountedMost m s a (record { next = b; count = n })
      another q =
          record {
            moved = arrive i.moved ((char_at e h).chars ∙ sym (left_off (m - (n + 1)) x (rest s d) q) ∙ sym here_left ∙ i.same);
            count = omega (arith, i.count, here_most, most_off (m - (n + 1)) x (rest s d) q);
          }

    -- where the pattern of a hash does not match, its parts have no names
    pub most_other : {y : ℕ × Cursor} → r ≡ Some y → (y.0 ≡ 0x23 → ⊥) → CountedMost m s a (record { next = b; count = n })
    most_other {y} e q = another {x = y.0} {d = y.1} e q

    pub most_over : r ≡ None → CountedMost m s a (record { next = b; count = n })
    most_over e =
        record {
          moved = arrive i.moved (end_at e h ∙ sym (left_none (m - n)) ∙ ap (left_most (m - n)) (sym (end_at e h)) ∙ i.same);
          count = omega (arith, i.count, ap (most (m - n)) (end_at e h), most_none (m - n));
        }

  pub most_done : m ≤ n → CountedMost m s a (record { next = b; count = m })
  most_done l =
      let z : m - n ≡ 0 = omega arith in
      record {
        moved = arrive i.moved (sym (left_done (rest s b)) ∙ ap (λ (k : ℕ). left_most k (rest s b)) (sym z) ∙ i.same);
        count = omega (arith, i.count, ap (λ (k : ℕ). most k (rest s b)) z, i.few);
      }
