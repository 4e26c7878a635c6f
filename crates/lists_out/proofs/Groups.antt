-- The lines of a list, pair by pair, in the facts of the code.
use Prim.Native.Nat.{ℕ, ◌+◌, ◌-◌, ◌*◌, ◌≤◌}
use mathlib.Core.Path.{◌≡◌, refl, sym, ap, ◌∙◌}
use mathlib.Core.List.{List, [], ◌∷◌, ◌++◌, append_assoc, append-nil}
use lib.ListN.{length, take, drop, get_or, length-append, take-append-drop}
use native.Mathlib.Omega.{arith}
use Rattle.std.proofs.lemmas.List.{take_rest}
use Rattle.puts.specs.Put.{laid, Put}
use Rattle.puts.proofs.Puts.{put_then, put_length}
use Rattle.lists_file.specs.File.{line, record_text, group_lines}
use Rattle.lists_out.specs.Parts.{record_bytes, Counted}
use Rattle.lists_out.proofs.Lines.{record_long}

-- a list of two numbers or more, as the code opens it
pub opened : (l : List ℕ) → 2 ≤ length l → l ≡ get_or l 0 0 ∷ get_or l 1 0 ∷ take (length l - 2) (drop 2 l)
opened [] h = absurd (omega arith)
opened (low ∷ []) h = absurd (omega arith)
opened (low ∷ high ∷ l) h = ap (λ (x : List ℕ). low ∷ high ∷ x) (sym (take_rest (low ∷ high ∷ l) 2))

-- the lines of a pair and of those after it
lines_pair : (which low high : ℕ) (l : List ℕ) → group_lines which (low ∷ high ∷ l) ≡ line (record_text which low high) ++ group_lines which l
unfolding group_lines
lines_pair which low high l = refl

lines_none : (which : ℕ) (l : List ℕ) → length l ≤ 1 → group_lines which l ≡ []
unfolding group_lines
lines_none which [] h = refl
lines_none which (low ∷ []) h = refl
lines_none which (low ∷ high ∷ l) h = absurd (omega arith)

-- COUNTED SO FAR: the bytes counted and those of the pairs left are all of them
pub record Counting (which : ℕ) (l left : List ℕ) (n : ℕ) : Type 0 where
  pub total : n + length (group_lines which left) ≡ length (group_lines which l)
  pub few : n + 32 * length left ≤ 32 * length l

module _ {which : ℕ} {l left : List ℕ} {n : ℕ} (m : Counting which l left n) where
  module _ {low high r : ℕ} {more : List ℕ} (e : left ≡ low ∷ high ∷ more) (c : Counted (line (record_text which low high)) 1 r) where
    pub counted_on : Counting which l more (n + r)
    counted_on = record {
      total = omega (arith, m.total, c.same, ap (λ (x : List ℕ). length (group_lines which x)) e, ap length (lines_pair which low high more), length-append (line (record_text which low high)) (group_lines which more));
      few = omega (arith, m.few, c.few, ap length e);
    }

  pub counted_all : length left ≤ 1 → Counted (group_lines which l) (length l) n
  counted_all h = record { same = omega (arith, m.total, ap length (lines_none which left h)); few = omega (arith, m.few) }

-- PUT SO FAR: the bytes put and those of the pairs left are all of them
pub record Grouping (which : ℕ) (l left before : List ℕ) (at : ℕ) (out : List ℕ) (n : ℕ) : Type 0 where
  pub done : List ℕ
  pub put : Put done before at out n
  pub same : length out ≡ length before
  pub whole : done ++ group_lines which left ≡ group_lines which l

nothing_put : (out : List ℕ) (at : ℕ) → at ≤ length out → Put [] out at out at
unfolding laid
nothing_put out at h =
    let z : at + 0 ≡ at = omega arith in
    record { holds = sym (ap (λ (k : ℕ). take at out ++ drop k out) z ∙ take-append-drop at out); next = omega arith; room = h }

module _ {which : ℕ} {l before : List ℕ} {at : ℕ} (room : at + length (group_lines which l) ≤ length before) where
  pub grouping_none : Grouping which l l before at before at
  grouping_none = record { done = []; put = nothing_put before at (omega (arith, room)); same = refl; whole = refl }

  module _ {left out more : List ℕ} {n low high : ℕ} (m : Grouping which l left before at out n) (e : left ≡ low ∷ high ∷ more) where
    all : m.done ++ (line (record_text which low high) ++ group_lines which more) ≡ group_lines which l
    all = ap (λ (x : List ℕ). m.done ++ x) (sym (lines_pair which low high more) ∙ sym (ap (group_lines which) e)) ∙ m.whole

    pub grouped_room : n + record_bytes which low high ≤ length out
    grouped_room =
        omega (
          arith,
          room,
          ap length all,
          length-append m.done (line (record_text which low high) ++ group_lines which more),
          length-append (line (record_text which low high)) (group_lines which more),
          record_long which low high,
          m.put.next,
          m.same,
        )

    pub grouped_on : {p : List ℕ} {r : ℕ} → Put (line (record_text which low high)) out n p r → Grouping which l more before at p r
    grouped_on u = record {
      done = m.done ++ line (record_text which low high);
      put = put_then m.put u;
      same = put_length u ∙ m.same;
      whole = append_assoc m.done (line (record_text which low high)) (group_lines which more) ∙ all;
    }

pub grouped_all : {which : ℕ} {l left before : List ℕ} {at : ℕ} {out : List ℕ} {n : ℕ} → Grouping which l left before at out n → length left ≤ 1 → Put (group_lines which l) before at out n
grouped_all {which} {l} {left} m h =
    let e : m.done ≡ group_lines which l = sym (append-nil m.done) ∙ sym (ap (λ (x : List ℕ). m.done ++ x) (lines_none which left h)) ∙ m.whole in
    rw e at m.put
