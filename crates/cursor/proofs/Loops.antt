-- Loops: the run of characters of one kind, and the search for an end. Each invariant says that the answer from here is the answer from the start.
use Prim.Native.Nat.{ℕ, zero, suc, ◌<◌}
use mathlib.Core.Path.{◌≡◌, refl, sym, ap, ◌∙◌}
use mathlib.Core.Bool.{Bool, true, false}
use mathlib.Core.List.{List, [], ◌∷◌}
use lib.ListN.{get_or, drop}
use native.Mathlib.Omega.{arith}
use Rattle.eaters.specs.Eat.{take_while, while}
use Rattle.eaters.specs.Scan.{after, Turn, taking, break_off, go, skip, scan}
use Rattle.cursor.specs.declared.Cursor.{Cursor}
use Rattle.std.specs.Prelude.{Option, None, Some}
use Rattle.cursor.specs.Cursors.{rest, Here, Seen}
use Rattle.cursor.specs.Moved.{Moved, start, over, left_of, onward, arrive}
use Rattle.cursor.specs.Ran.{left, Ran}
use Rattle.cursor.specs.Wanted.{Says, AteWhile}
use Rattle.cursor.proofs.Moves.{char_at, end_at, bumped}

-- a character is a CodePoint
narrow_char : {s : List ℕ} {b d : Cursor} {r : Option (ℕ × Cursor)} {x : ℕ} → r ≡ Some (x, d) → Seen s b r → x < 4294967296
narrow_char e h = omega (arith, (char_at e h).scalar)

-- A RUN OF CHARACTERS OF p
pub record Eaten (p : ℕ → Bool) (s : List ℕ) (a b : Cursor) : Type 0 where
  pub moved : Moved s a b (rest s b)
  pub same : left (while p) (rest s b) ≡ left (while p) (rest s a)

while_on : (p : ℕ → Bool) (c : ℕ) (cs : List ℕ) → p c ≡ true → left (while p) (c ∷ cs) ≡ left (while p) cs
unfolding while
while_on p c cs h = rw h

while_off : (p : ℕ → Bool) (c : ℕ) (cs : List ℕ) → p c ≡ false → left (while p) (c ∷ cs) ≡ c ∷ cs
unfolding while
while_off p c cs h = rw h

while_none : (p : ℕ → Bool) → left (while p) [] ≡ []
unfolding while
while_none p = refl

pub eaten_none : (p : ℕ → Bool) (s : List ℕ) (a : Cursor) → Eaten p s a a
eaten_none p s a = record { moved = start s a; same = refl }

module _ (p : ℕ → Bool) {s : List ℕ} {a b : Cursor} {r : Option (ℕ × Cursor)} (i : Eaten p s a b) (h : Seen s b r) where
  module _ {x : ℕ} {d : Cursor} (e : r ≡ Some (x, d)) {t : Bool} (q : t ≡ p x) where
    pub eaten_on : t ≡ true → Eaten p s a d
    eaten_on y =
        record {
          moved = onward i.moved (over (char_at e h));
          same = sym (while_on p x (rest s d) (sym q ∙ y)) ∙ ap (left (while p)) (sym (char_at e h).chars) ∙ i.same;
        }

    pub eaten_off : t ≡ false → Moved s a b (left (while p) (rest s a))
    eaten_off y =
        arrive i.moved ((char_at e h).chars ∙ sym (while_off p x (rest s d) (sym q ∙ y)) ∙ ap (left (while p)) (sym (char_at e h).chars) ∙ i.same)

  pub eaten_over : r ≡ None → Moved s a b (left (while p) (rest s a))
  eaten_over e = arrive i.moved (end_at e h ∙ sym (while_none p) ∙ ap (left (while p)) (sym (end_at e h)) ∙ i.same)

-- the same of each predicate that a closure's answers are
pub record EatenBy (post : ℕ → Bool → Type 0) (s : List ℕ) (a b : Cursor) : Type 0 where
  pub each : (p : ℕ → Bool) → Says post p → Eaten p s a b

module _ (post : ℕ → Bool → Type 0) (s : List ℕ) where
  pub eaten_by_none : (a : Cursor) → EatenBy post s a a
  eaten_by_none a = record { each = λ p y. eaten_none p s a }

module _ {post : ℕ → Bool → Type 0} {s : List ℕ} {a b : Cursor} {r : Option (ℕ × Cursor)} (i : EatenBy post s a b) (h : Seen s b r) where
  module _ {x : ℕ} {d : Cursor} (e : r ≡ Some (x, d)) {t : Bool} (q : post x t) where
    pub eaten_by_on : t ≡ true → EatenBy post s a d
    eaten_by_on k = record { each = λ p y. eaten_on p (i.each p y) h e (y x t (narrow_char e h) q) k }

    pub eaten_by_off : t ≡ false → AteWhile post s a b
    eaten_by_off k p y = eaten_off p (i.each p y) h e (y x t (narrow_char e h) q) k

  pub eaten_by_over : r ≡ None → AteWhile post s a b
  eaten_by_over e p y = eaten_over p (i.each p y) h e

-- so the run is made
pub ran_while : (p : ℕ → Bool) {s : List ℕ} {a b : Cursor} → Moved s a b (left (while p) (rest s a)) → Ran (while p) s a b (take_while p (rest s a))
unfolding while
ran_while p m = record { moved = m; said = refl }

-- A SEARCH FOR AN END: it began at a with depth 1, and is at b with depth d
pub record Inside (t : ℕ → ℕ → ℕ → Turn) (s : List ℕ) (a b : Cursor) (d : ℕ) : Type 0 where
  pub moved : Moved s a b (rest s b)
  pub same : left (scan t 0 d) (rest s b) ≡ left (scan t 0 1) (rest s a)
  pub word : (scan t 0 d (rest s b)).said ≡ (scan t 0 1 (rest s a)).said

scan_done : (t : ℕ → ℕ → ℕ → Turn) (cs : List ℕ) → scan t 0 0 cs ≡ record { took = 0; said = true }
unfolding scan
scan_done t [] = refl
scan_done t (c ∷ cs) = refl

scan_turn : (t : ℕ → ℕ → ℕ → Turn) (d c k e : ℕ) (cs : List ℕ) → t (suc d) c (get_or cs 0 0) ≡ taking k e → scan t 0 (suc d) (c ∷ cs) ≡ after (scan t k e cs)
unfolding scan
scan_turn t d c k e cs q = rw q

scan_off : (t : ℕ → ℕ → ℕ → Turn) (d c : ℕ) (cs : List ℕ) → t (suc d) c (get_or cs 0 0) ≡ break_off → scan t 0 (suc d) (c ∷ cs) ≡ record { took = 0; said = false }
unfolding scan
scan_off t d c cs q = rw q

scan_over : (t : ℕ → ℕ → ℕ → Turn) (d : ℕ) → scan t 0 (suc d) [] ≡ record { took = 0; said = false }
unfolding scan
scan_over t d = refl

-- a character that is skipped; at the end there is none, and the search has failed unless the depth is 0
skip_left : (t : ℕ → ℕ → ℕ → Turn) (d : ℕ) (cs : List ℕ) → left (scan t 1 d) cs ≡ left (scan t 0 d) (drop 1 cs)
unfolding scan
skip_left t zero [] = refl
skip_left t (suc d) [] = refl
skip_left t d (c ∷ cs) = refl

skip_said : (t : ℕ → ℕ → ℕ → Turn) (d c : ℕ) (cs : List ℕ) → (scan t 1 d (c ∷ cs)).said ≡ (scan t 0 d cs).said
unfolding scan
skip_said t d c cs = refl

skip_end : (t : ℕ → ℕ → ℕ → Turn) (d : ℕ) → (scan t 1 (suc d) []).said ≡ (scan t 0 (suc d) []).said
unfolding scan
skip_end t d = refl

pub inside_start : (t : ℕ → ℕ → ℕ → Turn) (s : List ℕ) (a : Cursor) → Inside t s a a 1
inside_start t s a = record { moved = start s a; same = refl; word = refl }

module _ (t : ℕ → ℕ → ℕ → Turn) {s : List ℕ} {a b : Cursor} {d : ℕ} (i : Inside t s a b (suc d)) where
  module _ {c : ℕ} {n : Cursor} (h : Here s b c n) where
    -- one character is taken
    pub inside_on : (e : ℕ) → t (suc d) c (get_or (rest s n) 0 0) ≡ go e → Inside t s a n e
    inside_on e q =
        let z : scan t 0 (suc d) (rest s b) ≡ after (scan t 0 e (rest s n)) = ap (scan t 0 (suc d)) h.chars ∙ scan_turn t d c 0 e (rest s n) q in
        record {
          moved = onward i.moved (over h);
          same = rw (z, h.chars) at i.same;
          word = rw z at i.word;
        }

    -- two characters are taken, and the second is there
    pub inside_past : {f : ℕ} {m : Cursor} (e : ℕ) → t (suc d) c (get_or (rest s n) 0 0) ≡ skip e → f ≡ get_or (rest s n) 0 0 → 0 < f → Moved s n m (drop 1 (rest s n)) → Inside t s a m e
    inside_past {f} {m} e q g o k =
        let v : rest s n ≡ f ∷ rest s m = bumped g o k in
        let z : scan t 0 (suc d) (rest s b) ≡ after (scan t 1 e (rest s n)) = ap (scan t 0 (suc d)) h.chars ∙ scan_turn t d c 1 e (rest s n) q in
        let y : (scan t 1 e (rest s n)).said ≡ (scan t 0 e (rest s m)).said = ap (λ (l : List ℕ). (scan t 1 e l).said) v ∙ skip_said t e f (rest s m) in
        let x : left (scan t 1 e) (rest s n) ≡ left (scan t 0 e) (rest s m) = skip_left t e (rest s n) ∙ ap (λ (l : List ℕ). left (scan t 0 e) (drop 1 l)) v in
        record {
          moved = arrive (onward (onward i.moved (over h)) k) (sym (left_of k));
          same = sym x ∙ (rw (z, h.chars) at i.same);
          word = sym y ∙ (rw z at i.word);
        }

    -- two are taken, or the one that is there; the search goes on
    pub inside_skip : {m : Cursor} (e : ℕ) → t (suc d) c (get_or (rest s n) 0 0) ≡ skip (suc e) → Moved s n m (drop 1 (rest s n)) → Inside t s a m (suc e)
    inside_skip {m} e q k =
        let z : scan t 0 (suc d) (rest s b) ≡ after (scan t 1 (suc e) (rest s n)) = ap (scan t 0 (suc d)) h.chars ∙ scan_turn t d c 1 (suc e) (rest s n) q in
        let y : (cs : List ℕ) → (scan t 1 (suc e) cs).said ≡ (scan t 0 (suc e) (drop 1 cs)).said = skips in
        record {
          moved = arrive (onward (onward i.moved (over h)) k) (sym (left_of k));
          same = ap (left (scan t 0 (suc e))) (left_of k) ∙ sym (skip_left t (suc e) (rest s n)) ∙ (rw (z, h.chars) at i.same);
          word = ap (λ (cs : List ℕ). (scan t 0 (suc e) cs).said) (left_of k) ∙ sym (y (rest s n)) ∙ (rw z at i.word);
        }
      where
        skips : (cs : List ℕ) → (scan t 1 (suc e) cs).said ≡ (scan t 0 (suc e) (drop 1 cs)).said
        skips [] = skip_end t e
        skips (c ∷ cs) = skip_said t (suc e) c cs

    -- the turn breaks off
    pub inside_off : t (suc d) c (get_or (rest s n) 0 0) ≡ break_off → Ran (scan t 0 1) s a b false
    inside_off q =
        let z : scan t 0 (suc d) (rest s b) ≡ record { took = 0; said = false } = ap (scan t 0 (suc d)) h.chars ∙ scan_off t d c (rest s n) q in
        record { moved = arrive i.moved (rw z at i.same); said = rw z at i.word }

  -- the text ends
  pub inside_over : rest s b ≡ [] → Ran (scan t 0 1) s a b false
  inside_over e =
      let z : scan t 0 (suc d) (rest s b) ≡ record { took = 0; said = false } = ap (scan t 0 (suc d)) e ∙ scan_over t d in
      record { moved = arrive i.moved (rw z at i.same); said = rw z at i.word }

-- the depth is 0
pub inside_found : (t : ℕ → ℕ → ℕ → Turn) {s : List ℕ} {a b : Cursor} → Inside t s a b 0 → Ran (scan t 0 1) s a b true
inside_found t {s} {a} {b} i =
    record { moved = arrive i.moved (rw (scan_done t (rest s b)) at i.same); said = rw (scan_done t (rest s b)) at i.word }
