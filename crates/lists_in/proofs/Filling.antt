-- The pass that writes: the numbers of the records before a place stand in the run.
use Prim.Native.Nat.{ℕ, ◌+◌, ◌*◌, ◌≤◌, ◌<◌}
use mathlib.Core.Path.{◌≡◌, refl, sym, ap, ◌∙◌}
use mathlib.Core.List.{List, [], ◌∷◌, ◌++◌, append_assoc}
use lib.ListN.{length, take, drop, get_or, set, length-set, length-append, drop_of_length-le}
use lib.Seq.{take-add, take_all, set_at, length-take-le}
use native.Mathlib.Omega.{arith}
use Rattle.fields.specs.Pieces.{after}
use Rattle.fields.proofs.Cuts.{Front, front}
use Rattle.ranges.proofs.Pairs.{pair_at}
use Rattle.lists_file.specs.declared.Entry.{Entry}
use Rattle.lists_file.specs.File.{record_text, group_lines, Pairs, no_pair, pair}
use Rattle.lists_file.specs.Lines.{entry}
use Rattle.lists_file.proofs.Texts.{record_back, record_unmarked}
use Rattle.std.specs.Prelude.{Option, None, Some}
use Rattle.lists_in.specs.Surveys.{step_of}
use Rattle.lists_in.specs.Fills.{Stand, Filled}
use Rattle.lists_in.proofs.Steps.{Told, step_told}
use Rattle.lists_in.proofs.Surveying.{Onward, onward}

-- A RECORD OF A LIST, where it stands: the step there gives it
pub record First (at which low high : ℕ) (t rest : List ℕ) : Type 0 where
  pub gives : step_of at t ≡ Some (entry which low high, at + length (record_text which low high) + 1)
  pub behind : after 10 t ≡ rest

first_line : (at which low high : ℕ) (t rest : List ℕ) → which ≤ 2 → low ≤ 0xFFFFFF → high ≤ 0xFFFFFF → t ≡ record_text which low high ++ (10 ∷ rest) → First at which low high t rest
first_line at which low high t rest w l h e =
    let f : Front 10 (record_text which low high) rest = front 10 (record_text which low high) rest (record_unmarked which low high) in
    record {
      gives = rw (e, f.marked, f.before, record_back which low high w l h) refl;
      behind = ap (after 10) e ∙ f.behind;
    }

-- HALFWAY: the first k pairs of the list are written, and the records of the others stand at a place
pub record Halfway (s : List ℕ) (from which : ℕ) (l rest before run : List ℕ) (at k : ℕ) : Type 0 where
  pub holds : run ≡ take (k * 2) l ++ drop (k * 2) before
  pub lines : drop at s ≡ group_lines which (drop (k * 2) l) ++ rest
  pub left : Pairs (drop (k * 2) l)
  pub place : at + length (group_lines which (drop (k * 2) l)) ≡ from + length (group_lines which l)

pub record Filling (s : List ℕ) (from pairs : ℕ) (before run : List ℕ) (at k : ℕ) : Type 0 where
  pub within : at ≤ length s
  pub kept : length run ≡ length before
  pub few : k ≤ pairs
  pub put : (which : ℕ) (l rest : List ℕ) → Stand s from which l rest → length l ≡ pairs * 2 → Halfway s from which l rest before run at k

-- the next pair of the list, and its record
record Next (which : ℕ) (l rest : List ℕ) (k : ℕ) (t : List ℕ) : Type 0 where
  open_list : drop (k * 2) l ≡ get_or l (k * 2) 0 ∷ get_or l (k * 2 + 1) 0 ∷ drop ((k + 1) * 2) l
  low : get_or l (k * 2) 0 ≤ 0xFFFFFF
  high : get_or l (k * 2 + 1) 0 ≤ 0xFFFFFF
  left : Pairs (drop ((k + 1) * 2) l)
  lines : t ≡ record_text which (get_or l (k * 2) 0) (get_or l (k * 2 + 1) 0) ++ (10 ∷ (group_lines which (drop ((k + 1) * 2) l) ++ rest))
  long : length (group_lines which (drop (k * 2) l)) ≡ length (record_text which (get_or l (k * 2) 0) (get_or l (k * 2 + 1) 0)) + 1 + length (group_lines which (drop ((k + 1) * 2) l))

group_pair : (which low high : ℕ) (m : List ℕ) → group_lines which (low ∷ high ∷ m) ≡ (record_text which low high ++ (10 ∷ [])) ++ group_lines which m
unfolding group_lines
group_pair which low high m = refl

pair_facts : {m : List ℕ} {low high : ℕ} {n : List ℕ} → Pairs m → m ≡ low ∷ high ∷ n → (low ≤ 0xFFFFFF) × ((high ≤ 0xFFFFFF) × Pairs n)
pair_facts no_pair e = absurd (cc)
pair_facts {low = a} {high = b} {n = n} (pair {low = x} {high = y} {l = l} u v w) e =
    let p : x ≡ a = cc in
    let q : y ≡ b = cc in
    let r : l ≡ n = cc in
    (omega arith, (omega arith, rw r at w))

module _ {s : List ℕ} {from pairs at k : ℕ} {before run : List ℕ} (w : Filling s from pairs before run at k) (h : k < pairs) (room : pairs * 2 ≤ length before) where
  module _ (which : ℕ) (l rest : List ℕ) (st : Stand s from which l rest) (n : length l ≡ pairs * 2) where
    half : Halfway s from which l rest before run at k
    half = w.put which l rest st n

    next_pair : Next which l rest k (drop at s)
    next_pair =
        let o : drop (k * 2) l ≡ get_or l (k * 2) 0 ∷ get_or l (k * 2 + 1) 0 ∷ drop ((k + 1) * 2) l = pair_at l k (omega arith) in
        let f = pair_facts half.left o in
        let g : group_lines which (drop (k * 2) l) ≡ (record_text which (get_or l (k * 2) 0) (get_or l (k * 2 + 1) 0) ++ (10 ∷ [])) ++ group_lines which (drop ((k + 1) * 2) l) = ap (group_lines which) o ∙ group_pair which _ _ _ in
        record {
          open_list = o;
          low = f.0;
          high = f.1.0;
          left = f.1.1;
          lines = half.lines ∙ ap (λ (x : List ℕ). x ++ rest) g ∙ simp append_assoc;
          long = ap length g ∙ simp length-append (omega arith);
        }

    stands : First at which (get_or l (k * 2) 0) (get_or l (k * 2 + 1) 0) (drop at s) (group_lines which (drop ((k + 1) * 2) l) ++ rest)
    stands = first_line at which _ _ (drop at s) _ st.list next_pair.low next_pair.high next_pair.lines

  module _ {r : Option (Entry × ℕ)} (p : r ≡ step_of at (drop at s)) where
    -- a list of more pairs stands there: so the step gives a record
    pub fill_bad : r ≡ None → Filled s from pairs before run at
    fill_bad q =
        record {
          within = w.within;
          put = λ which l rest st n. let g = (stands which l rest st n).gives in absurd (cc);
        }

    module _ {e : Entry} {next : ℕ} (q : r ≡ Some (e, next)) where
      told : Told at (drop at s) e next
      told = step_told at (drop at s) (sym p ∙ q)

      pub fill_next : Onward s at next
      fill_next = onward s at w.within told

      pub fill_on : Filling s from pairs before (set (set run (k * 2) e.low) (k * 2 + 1) e.high) next (k + 1)
      fill_on =
          record {
            within = fill_next.within;
            kept = simp length-set w.kept;
            few = omega arith;
            put = λ which l rest st n.
                let x = next_pair which l rest st n in
                let g = stands which l rest st n in
                let y = half which l rest st n in
                let z : (e, next) ≡ (entry which (get_or l (k * 2) 0) (get_or l (k * 2 + 1) 0), at + length (record_text which (get_or l (k * 2) 0) (get_or l (k * 2 + 1) 0)) + 1) = cc g.gives in
                let a : e ≡ entry which (get_or l (k * 2) 0) (get_or l (k * 2 + 1) 0) = ap (λ (i : Entry × ℕ). i.0) z in
                let b : next ≡ at + length (record_text which (get_or l (k * 2) 0) (get_or l (k * 2 + 1) 0)) + 1 = ap (λ (i : Entry × ℕ). i.1) z in
                record {
                  holds = written l (get_or l (k * 2) 0) (get_or l (k * 2 + 1) 0) (omega arith) (ap (λ (i : Entry). i.low) a) (ap (λ (i : Entry). i.high) a) x.open_list y.holds;
                  lines = sym fill_next.rest ∙ g.behind;
                  left = x.left;
                  place = omega (arith, y.place, x.long);
                };
          }
        where
          written : (l : List ℕ) (low high : ℕ) → k * 2 + 2 ≤ length l → e.low ≡ low → e.high ≡ high → drop (k * 2) l ≡ low ∷ high ∷ drop ((k + 1) * 2) l → run ≡ take (k * 2) l ++ drop (k * 2) before
              → set (set run (k * 2) e.low) (k * 2 + 1) e.high ≡ take ((k + 1) * 2) l ++ drop ((k + 1) * 2) before
          written l low high m i j o v =
              let P : List ℕ = take (k * 2) l in
              let D : List ℕ = drop ((k + 1) * 2) before in
              let b : drop (k * 2) before ≡ get_or before (k * 2) 0 ∷ get_or before (k * 2 + 1) 0 ∷ D = pair_at before k (omega arith) in
              let c : length P ≡ k * 2 = length-take-le (k * 2) l (omega arith) in
              let d : length (P ++ (low ∷ [])) ≡ k * 2 + 1 = length-append P (low ∷ []) ∙ omega arith in
              let u : (k + 1) * 2 ≡ k * 2 + 2 = omega arith in
              let t : take ((k + 1) * 2) l ≡ P ++ (low ∷ high ∷ []) = ap (λ (x : ℕ). take x l) u ∙ take-add (k * 2) 2 l ∙ ap (λ (x : List ℕ). P ++ take 2 x) o in
              ap (λ (x : ℕ). set (set run (k * 2) x) (k * 2 + 1) e.high) i
              ∙ ap (λ (x : ℕ). set (set run (k * 2) low) (k * 2 + 1) x) j
              ∙ ap (λ (x : List ℕ). set (set x (k * 2) low) (k * 2 + 1) high) (v ∙ ap (λ (x : List ℕ). P ++ x) b)
              ∙ ap (λ (x : List ℕ). set x (k * 2 + 1) high) (set_at P (get_or before (k * 2) 0) (get_or before (k * 2 + 1) 0 ∷ D) low (k * 2) c ∙ sym (append_assoc P (low ∷ []) (get_or before (k * 2 + 1) 0 ∷ D)))
              ∙ set_at (P ++ (low ∷ [])) (get_or before (k * 2 + 1) 0) D high (k * 2 + 1) d
              ∙ append_assoc P (low ∷ []) (high ∷ D)
              ∙ sym (append_assoc P (low ∷ high ∷ []) D)
              ∙ ap (λ (x : List ℕ). x ++ D) (sym t)

pub fill_ends : {s : List ℕ} {from pairs : ℕ} {before run : List ℕ} {at k : ℕ} → Filling s from pairs before run at k → pairs ≤ k → Filled s from pairs before run at
unfolding group_lines
fill_ends {s} {from} {pairs} {before} {run} {at} {k} w h =
    record {
      within = w.within;
      put = λ which l rest st n.
          let y = w.put which l rest st n in
          let c : k * 2 ≡ length l = omega (arith, w.few) in
          let d : drop (k * 2) l ≡ [] = drop_of_length-le l {i = k * 2} (omega arith) in
          record {
            holds = y.holds ∙ ap (λ (x : List ℕ). x ++ drop (k * 2) before) (take_all (k * 2) l (omega arith)) ∙ ap (λ (x : ℕ). l ++ drop x before) c;
            next = let z : length (group_lines which (drop (k * 2) l)) ≡ 0 = ap (λ (x : List ℕ). length (group_lines which x)) d in omega (arith, y.place);
          };
    }
