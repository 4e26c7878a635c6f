-- Moves of a cursor, in the facts that the code's checks hand over.
use Prim.Native.Nat.{ℕ, ◌+◌, ◌≤◌, ◌<◌}
use mathlib.Core.Path.{◌≡◌, sym, ap, subst, ◌∙◌}
use mathlib.Core.List.{List, [], ◌∷◌}
use lib.ListN.{length, get_or, drop, length-drop}
use lib.Seq.{drop-drop, get_or-drop}
use native.Mathlib.Omega.{arith}
use Rattle.cursor.specs.declared.Cursor.{Cursor}
use Rattle.std.specs.Prelude.{Option, None, Some}
use Rattle.cursor.specs.Cursors.{rest, Here, Seen, char, end}
use Rattle.cursor.specs.Moved.{Moved, start, over, left_of, onward, arrive, then}

-- a peek whose case is known
here : {s : List ℕ} {c : Cursor} {x : ℕ} {d : Cursor} → Seen s c (Some (x, d)) → Here s c x d
here (char h) = h

gone : {s : List ℕ} {c : Cursor} → Seen s c None → rest s c ≡ []
gone (end e) = e

pub char_at : {s : List ℕ} {c d : Cursor} {r : Option (ℕ × Cursor)} {x : ℕ} → r ≡ Some (x, d) → Seen s c r → Here s c x d
char_at {s} {c} e h = here (subst (λ (p : Option (ℕ × Cursor)). Seen s c p) e h)

pub end_at : {s : List ℕ} {c : Cursor} {r : Option (ℕ × Cursor)} → r ≡ None → Seen s c r → rest s c ≡ []
end_at {s} {c} e h = gone (subst (λ (p : Option (ℕ × Cursor)). Seen s c p) e h)

-- the move past one character
module _ {s : List ℕ} {b : Cursor} {r : Option (ℕ × Cursor)} where
  pub bump_there : {x : ℕ} {d : Cursor} → r ≡ Some (x, d) → Seen s b r → Moved s b d (drop 1 (rest s b))
  bump_there e h = arrive (over (char_at e h)) (rw (char_at e h).chars)

  pub bump_gone : r ≡ None → Seen s b r → Moved s b b (drop 1 (rest s b))
  bump_gone e h = arrive (start s b) (rw (end_at e h))

pub second_is : (s : List ℕ) {a b : Cursor} {x : ℕ} → Moved s a b (drop 1 (rest s a)) → x ≡ get_or (rest s b) 0 0 → x ≡ get_or (rest s a) 1 0
second_is s {a} m e = e ∙ ap (λ (l : List ℕ). get_or l 0 0) (left_of m) ∙ get_or-drop 1 (rest s a) 0 0

-- a first character that is not 0 is there
pub front : (cs : List ℕ) {x : ℕ} → x ≡ get_or cs 0 0 → 0 < x → cs ≡ x ∷ drop 1 cs
front [] e h = absurd (omega arith)
front (y ∷ cs) e h = rw e

-- a turn that looks, and one that looks and bumps, leave fewer characters
module _ {s : List ℕ} {b d : Cursor} {x : ℕ} {r : Option (ℕ × Cursor)} (e : r ≡ Some (x, d)) (h : Seen s b r) where
  pub fewer_1 : length (rest s d) < length (rest s b)
  fewer_1 = omega (arith, ap length (char_at e h).chars)

  pub fewer_2 : {n : Cursor} → Moved s d n (drop 1 (rest s d)) → length (rest s n) < length (rest s b)
  fewer_2 m = omega (arith, ap length (char_at e h).chars, ap length (left_of m), length-drop 1 (rest s d))

  pub over_in : {a : Cursor} {cs : List ℕ} → Moved s a b cs → Moved s a d (rest s d)
  over_in m = onward m (over (char_at e h))

-- a turn that bumps over a known character
module _ {s : List ℕ} {b d : Cursor} {x : ℕ} (e : x ≡ get_or (rest s b) 0 0) (h : 0 < x) (m : Moved s b d (drop 1 (rest s b))) where
  pub bumped : rest s b ≡ x ∷ rest s d
  bumped = front (rest s b) e h ∙ ap (λ (l : List ℕ). x ∷ l) (sym (left_of m))

  pub fewer : length (rest s d) < length (rest s b)
  fewer = omega (arith, ap length bumped)

pub settled : {s : List ℕ} {a b : Cursor} {cs : List ℕ} → Moved s a b cs → Moved s a b (rest s b)
settled m = arrive m (sym (left_of m))

-- past some characters, one by one: n of k are passed
pub record Eating (k : ℕ) (s : List ℕ) (a b : Cursor) (n : ℕ) : Type 0 where
  pub moved : Moved s a b (drop n (rest s a))
  pub few : n ≤ k

pub eating_none : (k : ℕ) (s : List ℕ) (a : Cursor) → Eating k s a a 0
eating_none k s a = record { moved = start s a; few = omega arith }

module _ {k : ℕ} {s : List ℕ} {a b : Cursor} {n : ℕ} (i : Eating k s a b n) where
  pub eating_more : {d : Cursor} → n < k → Moved s b d (drop 1 (rest s b)) → Eating k s a d (n + 1)
  eating_more l m = record { moved = arrive (then (drop 1) i.moved m) (drop-drop 1 n (rest s a)); few = omega arith }

  pub eating_done : k ≤ n → Moved s a b (drop k (rest s a))
  eating_done l =
      let e : n ≡ k = omega (arith, i.few) in
      subst (λ (j : ℕ). Moved s a b (drop j (rest s a))) e i.moved
