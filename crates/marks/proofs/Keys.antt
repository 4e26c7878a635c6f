-- A KEY HAS NO HIDDEN MARK where its text has none (document 02, W6): its characters are the text's and newlines.
use Prim.Native.Nat.{ℕ, ◌+◌}
use mathlib.Core.Path.{◌≡◌, refl, sym, ap, ◌∙◌}
use mathlib.Core.Bool.{Bool, true, false, not}
use mathlib.Core.List.{List, [], ◌∷◌, ◌++◌}
use borrow.Author.Tests.{eqb-true}
use native.Mathlib.Omega.{arith}
use Rattle.basics.specs.Choice.{pick, and}
use Rattle.basics.proofs.Choices.{and_1, and_2, and_both}
use Rattle.text.specs.Chars.{chars, width, WellFormed}
use Rattle.eaters.specs.Find.{at, nowhere}
use Rattle.token.specs.Names.{is, 'carriage_return'}
use Rattle.token.specs.Lists.{Lists}
use Rattle.canon.specs.Key.{key_of}
use Rattle.canon.proofs.Canon.{key_chars}
use Rattle.canon.proofs.Written.{kept_in_key}
use Rattle.canon.proofs.Sounds.{false_true}
use Rattle.line_ends.specs.LineEnds.{cr_lf, replaced}
use Rattle.line_ends.proofs.Coded.{un_chars}
use Rattle.marks.specs.Marks.{hidden, mark_from, hidden_mark, no_marks}

-- WHERE THE SEARCH FINDS NONE there is none, and the other way round
pub none_marked : (p : ℕ) (cs : List ℕ) → mark_from p cs ≡ nowhere → no_marks cs ≡ true
none_marked p [] e = refl
none_marked p (c ∷ cs) e = go (hidden c) e (none_marked (p + width c) cs)
  where
    go : (b : Bool) → pick b (at p) (mark_from (p + width c) cs) ≡ nowhere → (mark_from (p + width c) cs ≡ nowhere → no_marks cs ≡ true) → and (not b) (no_marks cs) ≡ true
    go true e i = let z : ◌≡◌ {A = ℕ} 0 1 = cc in absurd (omega arith)
    go false e i = i e

pub marked_none : (p : ℕ) (cs : List ℕ) → no_marks cs ≡ true → mark_from p cs ≡ nowhere
marked_none p [] e = refl
marked_none p (c ∷ cs) e = go (hidden c) e (marked_none (p + width c) cs)
  where
    go : (b : Bool) → and (not b) (no_marks cs) ≡ true → (no_marks cs ≡ true → mark_from (p + width c) cs ≡ nowhere) → pick b (at p) (mark_from (p + width c) cs) ≡ nowhere
    go true e i = false_true e
    go false e i = i e

-- A CR LEFT OUT is no mark: the replaced text has one exactly where the text has
pub replaced_marks : (cs : List ℕ) → no_marks (replaced cs) ≡ no_marks cs
replaced_marks [] = refl
replaced_marks (c ∷ cs) = go (cr_lf c cs) refl (replaced_marks cs)
  where
    go : (b : Bool) → cr_lf c cs ≡ b → no_marks (replaced cs) ≡ no_marks cs → no_marks (pick b (replaced cs) (c ∷ replaced cs)) ≡ and (not (hidden c)) (no_marks cs)
    go true e i =
        let k : c ≡ 'carriage_return' = eqb-true c 'carriage_return' (and_1 (is 'carriage_return' c) _ e) in
        rw k i
    go false e i = ap (and (not (hidden c))) i

-- two parts have none where neither has
parts : (u a : List ℕ) → no_marks (u ++ a) ≡ and (no_marks u) (no_marks a)
parts [] a = refl
parts (c ∷ u) a = go (not (hidden c)) (parts u a)
  where
    go : (b : Bool) → no_marks (u ++ a) ≡ and (no_marks u) (no_marks a) → and b (no_marks (u ++ a)) ≡ and (and b (no_marks u)) (no_marks a)
    go true i = i
    go false i = refl

-- a key of a text without them, for any lists
key_none : (L : Lists) (s : List ℕ) → no_marks (chars s) ≡ true → no_marks (chars (key_of L s)) ≡ true
key_none L s h =
    ap no_marks (key_chars L s)
    ∙ kept_in_key (λ (l : List ℕ). no_marks l ≡ true) refl (λ u a k. and_1 (no_marks u) _ (sym (parts u a) ∙ k)) (λ u a k. and_2 (no_marks u) _ (sym (parts u a) ∙ k)) (λ u a k j. parts u a ∙ and_both k j) (λ cs k. k) L s h

-- the characters of the replaced text have one exactly where the text's have
pub replaced_none : (s : List ℕ) → WellFormed s → no_marks (chars (replaced s)) ≡ no_marks (chars s)
replaced_none s w = ap no_marks (un_chars s w) ∙ replaced_marks (chars s)

-- THE KEY OF A TEXT WITHOUT HIDDEN MARKS has none: it is accepted again
pub key_unmarked : (L : Lists) (s : List ℕ) → WellFormed s → hidden_mark s ≡ nowhere → hidden_mark (key_of L (replaced s)) ≡ nowhere
key_unmarked L s w e = marked_none 0 (chars (key_of L (replaced s))) (key_none L (replaced s) (replaced_none s w ∙ none_marked 0 (chars s) e))
