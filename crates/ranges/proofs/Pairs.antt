-- Laws of a list read pair by pair.
use Rattle.std.specs.Prelude.{Option, None, Some, Err}
use Prim.Native.Nat.{ℕ, suc, ◌+◌, ◌-◌, ◌*◌, ◌/◌, ◌≤◌, ◌<◌}
use mathlib.Core.Path.{◌≡◌, refl, sym, ap, ◌∙◌}
use mathlib.Core.Bool.{Bool, true, false, not}
use mathlib.Core.List.{List, [], ◌∷◌}
use lib.ListN.{length, take, get_or, drop}
use lib.Seq.{drop-cons}
use borrow.Author.Tests.{not-true, not-false, ltb-true, leb-true, lt-ltb, le-ltb, le-leb}
use lib.Dec.{ltb, leb}
use native.Mathlib.Nat.{le_refl}
use native.Mathlib.Numerals.{add-one}
use native.Mathlib.Omega.{arith}
use Rattle.std.proofs.lemmas.List.{take_rest}
use Rattle.basics.specs.Choice.{pick}
use Rattle.basics.proofs.Choices.{and_1, and_2}
use Rattle.ranges.specs.Rules.{meets, below, clear, good_pair, flaw_from, flaw, list_verdict}
use Rattle.refusal.specs.declared.Bad.TheVariants as bad
use Rattle.refusal.specs.Verdict.{fine}

-- a test that cannot hold does not
refuted : (t : Bool) → (t ≡ true → ⊥) → false ≡ t
refuted true h = absurd (h refl)
refuted false h = refl

-- a pair that covers one of some points: a longer pair covers one of more points
meets_more : (f l from to first last low high : ℕ) → f ≤ first → last ≤ l → from ≤ low → high ≤ to → meets first last low high ≡ true → meets f l from to ≡ true
unfolding meets
meets_more f l from to first last low high p q u v e =
    let a = leb-true low last (and_1 _ _ e) in
    let b = leb-true first high (and_2 (leb low last) _ e) in
    rw (le-leb from l (omega arith), le-leb f to (omega arith))

-- `clear`, as facts
pub record Clear (low high : ℕ) : Type 0 where
  pub surrogates : meets 0xD800 0xDFFF low high ≡ false
  pub next_line : meets 0x85 0x85 low high ≡ false
  pub marks : meets 0x200E 0x200F low high ≡ false
  pub separators : meets 0x2028 0x2029 low high ≡ false

pub clear_true : (low high : ℕ) → clear low high ≡ true → Clear low high
unfolding clear
clear_true low high e =
    let f = and_2 (not (meets 0xD800 0xDFFF low high)) _ e in
    let g = and_2 (not (meets 0x85 0x85 low high)) _ f in
    record {
      surrogates = not-true _ (and_1 _ _ e);
      next_line = not-true _ (and_1 _ _ f);
      marks = not-true _ (and_1 _ _ g);
      separators = not-true _ (and_2 (not (meets 0x200E 0x200F low high)) _ g);
    }

-- a pair that covers no surrogate is clear if it covers none of the other points, which lie below them
pub clear_near : (low high : ℕ) → meets 0xD800 0xDFFF low high ≡ false → below low high ≡ clear low high
unfolding clear below
clear_near low high e = rw e refl

-- and it covers none of these if it lies above them
pub clear_far : (low high : ℕ) → meets 0xD800 0xDFFF low high ≡ false → 0x2029 < low → true ≡ clear low high
unfolding clear meets
clear_far low high e h = rw (e, past 0x85 (omega arith), past 0x200F (omega arith), past 0x2029 (omega arith)) refl
  where
    past : (last : ℕ) → last ≤ 0x2029 → leb low last ≡ false
    past last k = sym (refuted (leb low last) (λ p. omega (arith, leb-true low last p, k, h)))

-- a part of a clear pair is clear
clear_part : (from to low high : ℕ) → from ≤ low → high ≤ to → clear from to ≡ true → clear low high ≡ true
unfolding clear
clear_part from to low high p q e = rw (apart 0xD800 0xDFFF c.surrogates, apart 0x85 0x85 c.next_line, apart 0x200E 0x200F c.marks, apart 0x2028 0x2029 c.separators) refl
  where
    c : Clear from to
    c = clear_true from to e

    apart : (first last : ℕ) → meets first last from to ≡ false → meets first last low high ≡ false
    apart first last n =
        sym
        (refuted
        _
        (λ (t : meets first last low high ≡ true).
        let m = meets_more first last from to first last low high (le_refl first) (le_refl last) p q t in
        let z : ◌≡◌ {A = ℕ} 0 1 = cc in
        omega arith))

-- `good_pair`, as facts
pub record Fits (p low high : ℕ) : Type 0 where
  pub order : low ≤ high
  pub most : high ≤ 0x10FFFF
  pub least : 0x80 ≤ low
  pub above : p < low
  pub free : clear low high ≡ true

pub pair_true : (p low high : ℕ) → good_pair p low high ≡ true → Fits p low high
unfolding good_pair
pair_true p low high e =
    let f = and_2 (leb low high) _ e in
    let g = and_2 (leb high 0x10FFFF) _ f in
    let h = and_2 (leb 0x80 low) _ g in
    record {
      order = leb-true low high (and_1 _ _ e);
      most = leb-true high 0x10FFFF (and_1 _ _ f);
      least = leb-true 0x80 low (and_1 _ _ g);
      above = ltb-true p low (and_1 _ _ h);
      free = and_2 (ltb p low) _ h;
    }

pub pair_last : (p low high : ℕ) {r : Bool} → low ≤ high → high ≤ 0x10FFFF → 0x80 ≤ low → p < low → r ≡ clear low high → r ≡ good_pair p low high
unfolding good_pair
pair_last p low high a b c d e = rw (le-leb low high a, le-leb high 0x10FFFF b, le-leb 0x80 low c, lt-ltb p low d) e

-- a part of a pair that obeys the rules obeys them, after whatever lies below it
pub pair_part : (p from to q low high : ℕ) → good_pair p from to ≡ true → from ≤ low → low ≤ high → high ≤ to → q < low → good_pair q low high ≡ true
pair_part p from to q low high e a b c d =
    let f = pair_true p from to e in
    sym (pair_last q low high b (omega arith) (omega arith) d (sym (clear_part from to low high a c f.free)))

-- the list from pair k on
pub pair_at : (l : List ℕ) (k : ℕ) → k < length l / 2
    → drop (k * 2) l ≡ get_or l (k * 2) 0 ∷ get_or l (k * 2 + 1) 0 ∷ drop ((k + 1) * 2) l
pair_at l k h =
    let e : (k + 1) * 2 ≡ suc (suc (k * 2)) = omega arith in
    let f : k * 2 + 1 ≡ suc (k * 2) = omega arith in
    rw (e, f, drop-cons l (k * 2) 0 (omega arith), drop-cons l (suc (k * 2)) 0 (omega arith))

-- the clauses of the definition
flaw_pair : (k p low high : ℕ) (l : List ℕ)
    → flaw_from k p (low ∷ high ∷ l) ≡ pick (good_pair p low high) (flaw_from (suc k) high l) (Some k)
unfolding flaw_from
flaw_pair k p low high l = refl

flaw_half : (k p : ℕ) (l : List ℕ) → length l ≡ 1 → flaw_from k p l ≡ Some k
unfolding flaw_from
flaw_half k p [] h = absurd (omega arith)
flaw_half k p (a ∷ []) h = refl
flaw_half k p (a ∷ b ∷ l) h = absurd (omega arith)

flaw_end : (k p : ℕ) (l : List ℕ) → length l ≡ 0 → flaw_from k p l ≡ None
unfolding flaw_from
flaw_end k p [] h = refl
flaw_end k p (a ∷ l) h = absurd (omega arith)

-- THE CHECK: what the pairs of `rest` say, the first of them pair k, after a pair that ends at p, is what the whole list says
pub record Checked (l : List ℕ) (p k : ℕ) (rest : List ℕ) : Type 0 where
  pub same : flaw_from k p rest ≡ flaw_from 0 0 l
  pub room : k * 2 + length rest ≡ length l

pub check_start : (l : List ℕ) → Checked l 0 0 l
check_start l = record { same = refl; room = omega arith }

-- where what is left is the list from pair k on
pub checked_at : {l : List ℕ} {p k : ℕ} → Checked l p k (drop (k * 2) l) → k < length l / 2
    → Checked l p k (get_or l (k * 2) 0 ∷ get_or l (k * 2 + 1) 0 ∷ drop ((k + 1) * 2) l)
checked_at {l} {p} {k} w h = rw (pair_at l k h) at w

-- and where it is taken apart by a pattern
pub opened : {l : List ℕ} {p k : ℕ} (rest : List ℕ) → Checked l p k rest → 2 ≤ length rest
    → Checked l p k (get_or rest 0 0 ∷ get_or rest 1 0 ∷ take (length rest - 2) (drop 2 rest))
opened [] w h = absurd (omega arith)
opened (low ∷ []) w h = absurd (omega arith)
opened (low ∷ high ∷ more) w h = rw (take_rest (low ∷ high ∷ more) 2) w

-- pair k breaks a rule, or none: one turn
module _ {l : List ℕ} {p k low high : ℕ} {more : List ℕ} {r : Bool} (w : Checked l p k (low ∷ high ∷ more)) (e : r ≡ good_pair p low high) where
  turn : pick r (flaw_from (suc k) high more) (Some k) ≡ flaw_from 0 0 l
  turn = rw e (sym (flaw_pair k p low high more) ∙ w.same)

  pub check_stop : not r ≡ true → Some k ≡ flaw_from 0 0 l
  check_stop t = rw (not-true r t) at turn

  pub check_on : not r ≡ false → Checked l high (k + 1) more
  check_on t = record { same = ap (λ (n : ℕ). flaw_from n high more) (add-one k) ∙ rw (not-false r t) at turn; room = omega (arith, w.room) }

-- past the last whole pair
module _ {l : List ℕ} {p k : ℕ} {rest : List ℕ} (w : Checked l p k rest) where
  pub check_half : length rest ≡ 1 → Some k ≡ flaw_from 0 0 l
  check_half o = sym (flaw_half k p rest o) ∙ w.same

  pub check_end : length rest ≡ 0 → None ≡ flaw_from 0 0 l
  check_end o = sym (flaw_end k p rest o) ∙ w.same

-- the count first
pub count_over : (limit : ℕ) (l : List ℕ) → limit < length l / 2 → Some limit ≡ flaw limit l
unfolding flaw
count_over limit l h = rw (lt-ltb limit (length l / 2) h)

pub count_fits : (limit : ℕ) (l : List ℕ) {r : (Option ℕ)} → length l / 2 ≤ limit → r ≡ flaw_from 0 0 l → r ≡ flaw limit l
unfolding flaw
count_fits limit l h e = rw (le-ltb limit (length l / 2) h) e

-- the verdict of a flaw
module _ (limit which : ℕ) (l : List ℕ) {r : (Option ℕ)} (p : r ≡ flaw limit l) where
  verdict_of : elim r [ None ↦ fine | Some k ↦ Err (bad.List which k) ] ≡ list_verdict limit which l
  unfolding list_verdict
  verdict_of = ap (λ (x : (Option ℕ)). elim x [ None ↦ fine | Some k ↦ Err (bad.List which k) ]) p

  pub verdict_fine : r ≡ None → fine ≡ list_verdict limit which l
  verdict_fine q = rw q at verdict_of
