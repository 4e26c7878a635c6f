-- Laws of a text parted at a mark.
use Prim.Native.Nat.{ℕ, suc, ◌+◌, ◌-◌, ◌≤◌, ◌<◌}
use mathlib.Core.Path.{◌≡◌, refl, sym, ap, ◌∙◌}
use mathlib.Core.Bool.{Bool, true, false}
use mathlib.Core.List.{List, [], ◌∷◌, ◌++◌}
use borrow.Author.Tests.{eq-eqb, ne_eqb, eqb-true, eqb-false}
use lib.ListN.{length, take, drop, get_or}
use lib.Dec.{eqb}
use native.Mathlib.Numerals.{add-one}
use native.Mathlib.Omega.{arith}
use Rattle.std.specs.Prelude.{cond}
use Rattle.std.proofs.lemmas.List.{take_rest}
use Rattle.std.proofs.lemmas.List.Recursion.{is_position_or_len}
use Rattle.std.proofs.lemmas.List.Sums.{position_or_len_is}
use Rattle.basics.specs.Choice.{pick, or}
use Rattle.basics.specs.Tests.{is_in}
use Rattle.puts.specs.Joined.{joined}
use Rattle.fields.specs.Pieces.{piece, after, CutInto, Parted, parts, onto, parted}

-- THE SEARCH for a mark: the piece ends at the first one, or with the text
pub piece_long : (mark n : ℕ) (s : List ℕ) → n ≤ length s → ((k : ℕ) → k < n → get_or s k 0 ≡ mark → ⊥) → (n < length s → get_or s n 0 ≡ mark) → length (piece mark s) ≡ n
unfolding piece
piece_long mark n s h before here =
    is_position_or_len (λ (l : List ℕ). length (piece mark l)) (λ (c : ℕ). eqb c mark) refl turn s
    ∙ position_or_len_is (λ (c : ℕ). eqb c mark) s n 0 h (λ k l. ne_eqb (get_or s k 0) mark (before k l)) (λ l. eq-eqb (get_or s n 0) mark (here l))
  where
    by_test : (t : Bool) (c : ℕ) (p : List ℕ) → length (pick t [] (c ∷ p)) ≡ cond t 0 (1 + length p)
    by_test true c p = refl
    by_test false c p = omega arith

    turn : (c : ℕ) (l : List ℕ) → length (piece mark (c ∷ l)) ≡ cond (eqb c mark) 0 (1 + length (piece mark l))
    turn c l = by_test (eqb c mark) c (piece mark l)

-- A piece is the front of its text.
front_of : (t : Bool) (c : ℕ) (p s : List ℕ) → take (length p) s ≡ p → take (length (pick t [] (c ∷ p))) (c ∷ s) ≡ pick t [] (c ∷ p)
front_of true c p s e = refl
front_of false c p s e = ap (λ (l : List ℕ). c ∷ l) e

pub piece_take : (mark : ℕ) (s : List ℕ) → take (length (piece mark s)) s ≡ piece mark s
unfolding piece
piece_take mark [] = refl
piece_take mark (c ∷ s) = front_of (eqb c mark) c (piece mark s) s (piece_take mark s)

within_of : (t : Bool) (c : ℕ) (p : List ℕ) (n : ℕ) → length p ≤ n → length (pick t [] (c ∷ p)) ≤ suc n
within_of true c p n h = omega arith
within_of false c p n h = omega arith

pub piece_within : (mark : ℕ) (s : List ℕ) → length (piece mark s) ≤ length s
unfolding piece
piece_within mark [] = omega arith
piece_within mark (c ∷ s) = within_of (eqb c mark) c (piece mark s) (length s) (piece_within mark s)

-- THE CUT at the first mark, where there is one
pub record Cut (mark : ℕ) (s : List ℕ) : Type 0 where
  pub marked : is_in s mark ≡ true
  pub rest : after mark s ≡ drop (suc (length (piece mark s))) s
  pub whole : s ≡ piece mark s ++ (mark ∷ after mark s)
  pub parts_on : parted mark s ≡ parts (piece mark s ∷ (parted mark (after mark s)).ended) (parted mark (after mark s)).rest

cut_here : (mark c : ℕ) (s : List ℕ) → c ≡ mark → Cut mark (c ∷ s)
unfolding piece after parted
cut_here mark c s e =
    record {
      marked = rw (eq-eqb mark c (sym e)) refl;
      rest = rw (eq-eqb c mark e, piece, after) refl;
      whole = rw (eq-eqb c mark e, piece, after) (ap (λ (n : ℕ). n ∷ s) e);
      parts_on = rw (eq-eqb c mark e, piece, after, parted) refl;
    }

cut_further : (mark c : ℕ) (s : List ℕ) → (c ≡ mark → ⊥) → Cut mark s → Cut mark (c ∷ s)
unfolding piece after parted
cut_further mark c s e k =
    record {
      marked = rw (ne_eqb mark c (λ (x : mark ≡ c). e (sym x))) k.marked;
      rest = rw (ne_eqb c mark e, piece, after) k.rest;
      whole = rw (ne_eqb c mark e, piece, after) (ap (λ (l : List ℕ). c ∷ l) k.whole);
      parts_on = rw (ne_eqb c mark e, piece, after, parted) (ap (λ (p : Parted). onto c p.ended p.rest) k.parts_on);
    }

cut_by : (mark c : ℕ) (s : List ℕ) (t : Bool) → eqb c mark ≡ t → (length (piece mark s) < length s → Cut mark s) → length (pick t [] (c ∷ piece mark s)) < suc (length s) → Cut mark (c ∷ s)
cut_by mark c s true e k h = cut_here mark c s (eqb-true c mark e)
cut_by mark c s false e k h = cut_further mark c s (eqb-false c mark e) (k (omega arith))

pub cut_at : (mark : ℕ) (s : List ℕ) → length (piece mark s) < length s → Cut mark s
unfolding piece
cut_at mark [] h = absurd (omega arith)
cut_at mark (c ∷ s) h = cut_by mark c s (eqb c mark) refl (cut_at mark s) h

-- and where there is none
pub record Uncut (mark : ℕ) (s : List ℕ) : Type 0 where
  pub unmarked : is_in s mark ≡ false
  pub all : piece mark s ≡ s
  pub no_parts : parted mark s ≡ parts [] s

uncut_by : (mark c : ℕ) (s : List ℕ) (t : Bool) → eqb c mark ≡ t → (length s ≤ length (piece mark s) → Uncut mark s) → suc (length s) ≤ length (pick t [] (c ∷ piece mark s)) → Uncut mark (c ∷ s)
unfolding piece parted
uncut_by mark c s true e k h = absurd (omega arith)
uncut_by mark c s false e k h =
    let n : c ≡ mark → ⊥ = eqb-false c mark e in
    let u : Uncut mark s = k (omega arith) in
    record {
      unmarked = rw (ne_eqb mark c (λ (x : mark ≡ c). n (sym x))) u.unmarked;
      all = rw (e, piece) (ap (λ (l : List ℕ). c ∷ l) u.all);
      no_parts = rw (e, parted) (ap (λ (p : Parted). onto c p.ended p.rest) u.no_parts);
    }

pub no_cut : (mark : ℕ) (s : List ℕ) → length s ≤ length (piece mark s) → Uncut mark s
unfolding piece parted
no_cut mark [] h = record { unmarked = refl; all = refl; no_parts = refl }
no_cut mark (c ∷ s) h = uncut_by mark c s (eqb c mark) refl (no_cut mark s) h

-- A TEXT MADE of a piece without the mark, the mark, and a rest: it is cut there.
pub record Front (mark : ℕ) (p t : List ℕ) : Type 0 where
  pub marked : is_in (p ++ (mark ∷ t)) mark ≡ true
  pub before : piece mark (p ++ (mark ∷ t)) ≡ p
  pub behind : after mark (p ++ (mark ∷ t)) ≡ t
  pub parts_on : parted mark (p ++ (mark ∷ t)) ≡ parts (p ∷ (parted mark t).ended) (parted mark t).rest

front_by : (mark c : ℕ) (p t : List ℕ) (b : Bool) → eqb mark c ≡ b → or b (is_in p mark) ≡ false → (is_in p mark ≡ false → Front mark p t) → Front mark (c ∷ p) t
unfolding piece after parted
front_by mark c p t true e h k = absurd (cc)
front_by mark c p t false e h k =
    let f : Front mark p t = k h in
    let n : eqb c mark ≡ false = ne_eqb c mark (λ (x : c ≡ mark). eqb-false mark c e (sym x)) in
    record {
      marked = rw e f.marked;
      before = rw (n, piece) (ap (λ (l : List ℕ). c ∷ l) f.before);
      behind = rw (n, after) f.behind;
      parts_on = rw (n, parted) (ap (λ (q : Parted). onto c q.ended q.rest) f.parts_on);
    }

pub front : (mark : ℕ) (p t : List ℕ) → is_in p mark ≡ false → Front mark p t
unfolding piece after parted
front mark [] t h = record { marked = rw (eq-eqb mark mark refl) refl; before = rw (eq-eqb mark mark refl, piece) refl; behind = rw (eq-eqb mark mark refl, after) refl; parts_on = rw (eq-eqb mark mark refl, parted) refl }
front mark (c ∷ p) t h = front_by mark c p t (eqb mark c) refl h (front mark p t)

-- a text without the mark, made of two
pub unmarked_append : (mark : ℕ) (s t : List ℕ) → is_in s mark ≡ false → is_in t mark ≡ false → is_in (s ++ t) mark ≡ false
unmarked_append mark [] t e f = f
unmarked_append mark (c ∷ s) t e f = by_test (eqb mark c) e (λ (g : is_in s mark ≡ false). unmarked_append mark s t g f)
  where
    by_test : (b : Bool) → or b (is_in s mark) ≡ false → (is_in s mark ≡ false → is_in (s ++ t) mark ≡ false) → or b (is_in (s ++ t) mark) ≡ false
    by_test true g k = absurd (cc)
    by_test false g k = k g

-- THE PARTS MAKE UP THE TEXT: each piece with its mark, and the rest.
abbrev pub closed : (mark : ℕ) → List ℕ → List ℕ
closed mark p = p ++ (mark ∷ [])

abbrev pub whole : (mark : ℕ) → Parted → List ℕ
whole mark p = joined (closed mark) p.ended ++ p.rest

onto_whole : (mark c : ℕ) (ps : List (List ℕ)) (r : List ℕ) → whole mark (onto c ps r) ≡ c ∷ whole mark (parts ps r)
onto_whole mark c [] r = refl
onto_whole mark c (p ∷ ps) r = refl

pub parted_whole : (mark : ℕ) (s : List ℕ) → whole mark (parted mark s) ≡ s
unfolding parted
parted_whole mark [] = refl
parted_whole mark (c ∷ s) = by_test (eqb c mark) refl (parted_whole mark s)
  where
    by_test : (t : Bool) → eqb c mark ≡ t → whole mark (parted mark s) ≡ s
        → whole mark (pick t (parts ([] ∷ (parted mark s).ended) (parted mark s).rest) (onto c (parted mark s).ended (parted mark s).rest)) ≡ c ∷ s
    by_test true e ih = let n : c ≡ mark = eqb-true c mark e in rw n (ap (λ (l : List ℕ). mark ∷ l) ih)
    by_test false e ih = onto_whole mark c (parted mark s).ended (parted mark s).rest ∙ ap (λ (l : List ℕ). c ∷ l) ih

-- THE CUT at the place of the first mark
pub cut_into : (mark : ℕ) (s : List ℕ) {n : ℕ} → n ≡ length (piece mark s) → n < length s → CutInto mark s (take n s) (take (length s - (n + 1)) (drop (n + 1) s))
cut_into mark s {n} l h =
    let c : Cut mark s = cut_at mark s (omega arith) in
    record {
      marked = c.marked;
      before_it = rw l (piece_take mark s);
      behind_it = take_rest s (n + 1) ∙ rw (add-one, l) (sym c.rest);
    }
