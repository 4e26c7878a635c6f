-- Characters at a cursor, compared one by one, in the facts of the code.
use Prim.Native.Nat.{ℕ, zero, suc, ◌+◌, ◌≤◌, ◌<◌}
use mathlib.Core.Path.{◌≡◌, refl, sym, ap, ◌∙◌}
use mathlib.Core.Bool.{Bool, true, false}
use mathlib.Core.List.{List, [], ◌∷◌}
use native.Mathlib.Numerals.{add-one}
use lib.Dec.{eqb}
use lib.ListN.{length, get_or, drop}
use lib.Seq.{drop-cons}
use native.Mathlib.Omega.{arith}
use borrow.Author.Tests.{eq-eqb}
use Rattle.basics.specs.Choice.{and}
use Rattle.eaters.specs.Look.{begins}
use Rattle.cursor.specs.declared.Cursor.{Cursor}
use Rattle.std.specs.Prelude.{Option, None, Some}
use Rattle.cursor.specs.Cursors.{rest, Seen}
use Rattle.cursor.proofs.Moves.{char_at, end_at}

-- one step of the definition: character i of the pattern l
module _ (l : List ℕ) (i : ℕ) where
  pattern_at : i < length l → drop i l ≡ get_or l i 0 ∷ drop (i + 1) l
  pattern_at h = rw (add-one, drop-cons l i 0)

  begins_over : i < length l → begins (drop i l) [] ≡ false
  begins_over h = ap (λ (k : List ℕ). begins k []) (pattern_at h)

  begins_step : (c : ℕ) (cs : List ℕ) → i < length l → begins (drop i l) (c ∷ cs) ≡ and (eqb c (get_or l i 0)) (begins (drop (i + 1) l) cs)
  begins_step c cs h = ap (λ (k : List ℕ). begins k (c ∷ cs)) (pattern_at h)

begins_all : (l : List ℕ) (i : ℕ) (cs : List ℕ) → length l ≤ i → begins (drop i l) cs ≡ true
begins_all [] zero cs h = refl
begins_all [] (suc i) cs h = refl
begins_all (x ∷ l) zero cs h = absurd (omega arith)
begins_all (x ∷ l) (suc i) cs h = begins_all l i cs (omega arith)

-- i characters are there, and the others decide
pub record Matching (l s : List ℕ) (a b : Cursor) (i : ℕ) : Type 0 where
  pub same : begins (drop i l) (rest s b) ≡ begins l (rest s a)
  pub few : i ≤ length l

module _ {l s : List ℕ} {a b : Cursor} {i : ℕ} (m : Matching l s a b i) where
  module _ (o : i < length l) {r : Option (ℕ × Cursor)} (h : Seen s b r) where
    pub matching_over : r ≡ None → false ≡ begins l (rest s a)
    matching_over e = sym (begins_over l i o) ∙ ap (begins (drop i l)) (sym (end_at e h)) ∙ m.same

    module _ {c w : ℕ} {d : Cursor} (e : r ≡ Some (c, d)) (f : w ≡ get_or l i 0) where
      step : begins l (rest s a) ≡ and (eqb c w) (begins (drop (i + 1) l) (rest s d))
      step =
          sym m.same ∙ ap (begins (drop i l)) (char_at e h).chars ∙ begins_step l i c (rest s d) o
          ∙ ap (λ (x : ℕ). and (eqb c x) (begins (drop (i + 1) l) (rest s d))) (sym f)

      pub matching_on : c ≡ w → Matching l s a d (i + 1)
      matching_on q =
          record { same = sym (step ∙ ap (λ (t : Bool). and t (begins (drop (i + 1) l) (rest s d))) (eq-eqb c w q)); few = omega arith }
