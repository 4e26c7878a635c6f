-- Searches: what is sought from here is what is sought from the start. One set of laws for every search.
use Prim.Native.Nat.{ℕ, suc, ◌+◌}
use mathlib.Core.Path.{◌≡◌, refl, sym, ap, subst, ◌∙◌}
use mathlib.Core.Bool.{Bool, true, false}
use mathlib.Core.List.{List, [], ◌∷◌}
use lib.ListN.{drop}
use lib.Seq.{drop-drop}
use native.Mathlib.Omega.{arith}
use Rattle.basics.specs.Choice.{pick}
use Rattle.eaters.specs.Find.{Place, at, nowhere, further, find}
use Rattle.eaters.specs.Look.{begins}
use Rattle.token.specs.Frontmatter.{first}
use Rattle.cursor.specs.declared.Cursor.{Cursor}
use Rattle.std.specs.Prelude.{Option, None, Some}
use Rattle.cursor.specs.Cursors.{rest, Here, Seen}
use Rattle.cursor.specs.Moved.{Moved, start, over, arrive, then}
use Rattle.cursor.proofs.Moves.{char_at, end_at}
use Rattle.frontmatter.specs.Searches.{SoughtAt, there, gone}

-- j places further
abbrev pub shift : ℕ → Place → Place
shift j (at k) = at (j + k)
shift j nowhere = nowhere

pub shift_none : (p : Place) → p ≡ shift 0 p
shift_none (at k) = ap at (omega arith)
shift_none nowhere = refl

pub shift_one : (p : Place) → further p ≡ shift 1 p
shift_one (at k) = ap at (omega arith)
shift_one nowhere = refl

pub shift_more : (j : ℕ) (p : Place) → further (shift j p) ≡ shift (suc j) p
shift_more j (at k) = ap at (omega arith)
shift_more j nowhere = refl

pub shift_further : (j : ℕ) (p : Place) → further (shift j p) ≡ shift j (further p)
shift_further j (at k) = ap at (omega arith)
shift_further j nowhere = refl

-- THE SEARCH IS AT b: whatever answers for the place q from b on answers for the place p from a on
pub record Seeking (s : List ℕ) (a b : Cursor) (p q : Place) : Type 0 where
  pub back : {r : Option Cursor} → SoughtAt s b q r → SoughtAt s a p r

pub seeking : (s : List ℕ) (a : Cursor) (p : Place) → Seeking s a a p p
seeking s a p = record { back = λ k. k }

shifted : (j : ℕ) {s : List ℕ} {b d : Cursor} {q : Place} {r : Option Cursor} → Moved s b d (drop j (rest s b)) → SoughtAt s d q r → SoughtAt s b (shift j q) r
shifted j {s} {b} m (there {k = k} n) = there (arrive (then (drop k) m n) (drop-drop k j (rest s b)))
shifted j m gone = gone

module _ {s : List ℕ} {a b : Cursor} {p q : Place} (i : Seeking s a b p q) where
  -- on by j characters
  pub seek_past : (j : ℕ) {d : Cursor} {o : Place} → Moved s b d (drop j (rest s b)) → q ≡ shift j o → Seeking s a d p o
  seek_past j {d} {o} m e = record { back = λ {r} k. i.back (subst (λ (z : Place). SoughtAt s b z r) (sym e) (shifted j m k)) }

  -- on by one
  pub seek_on : {c : ℕ} {d : Cursor} {o : Place} → Here s b c d → q ≡ further o → Seeking s a d p o
  seek_on {o = o} h e = seek_past 1 (arrive (over h) (sym (ap (drop 1) h.chars))) (e ∙ shift_one o)

  pub seek_at : (k : ℕ) {d : Cursor} → Moved s b d (drop k (rest s b)) → q ≡ at k → SoughtAt s a p (Some d)
  seek_at k {d} m e = i.back (subst (λ (z : Place). SoughtAt s b z (Some d)) (sym e) (there m))

  pub seek_here : q ≡ at 0 → SoughtAt s a p (Some b)
  seek_here e = seek_at 0 (start s b) e

  pub seek_gone : q ≡ nowhere → SoughtAt s a p None
  seek_gone e = i.back (subst (λ (z : Place). SoughtAt s b z None) (sym e) gone)

-- THE SEARCH FOR CHARACTERS, one step of the definition
pub first_here : (l cs : List ℕ) → begins l cs ≡ true → first l cs ≡ at 0
unfolding find
first_here l [] e = ap (λ (t : Bool). pick t (at 0) nowhere) e
first_here l (c ∷ cs) e = ap (λ (t : Bool). pick t (at 0) (further (find (begins l) cs))) e

pub first_on : (l : List ℕ) (c : ℕ) (cs : List ℕ) → begins l (c ∷ cs) ≡ false → first l (c ∷ cs) ≡ further (first l cs)
unfolding find
first_on l c cs e = ap (λ (t : Bool). pick t (at 0) (further (find (begins l) cs))) e

pub first_none : (l : List ℕ) → begins l [] ≡ false → first l [] ≡ nowhere
unfolding find
first_none l e = ap (λ (t : Bool). pick t (at 0) nowhere) e

pub record Finding (l s : List ℕ) (a b : Cursor) : Type 0 where
  pub seek : Seeking s a b (first l (rest s a)) (first l (rest s b))

module _ {l s : List ℕ} {a b : Cursor} (i : Finding l s a b) {t : Bool} (q : t ≡ begins l (rest s b)) where
  pub found : t ≡ true → SoughtAt s a (first l (rest s a)) (Some b)
  found y = seek_here i.seek (first_here l (rest s b) (sym q ∙ y))

  module _ (n : t ≡ false) {r : Option (ℕ × Cursor)} (h : Seen s b r) where
    pub finding_over : r ≡ None → SoughtAt s a (first l (rest s a)) None
    finding_over e =
        let z : rest s b ≡ [] = end_at e h in
        seek_gone i.seek (ap (first l) z ∙ first_none l (ap (begins l) (sym z) ∙ sym q ∙ n))

    pub finding_on : {c : ℕ} {d : Cursor} → r ≡ Some (c, d) → Finding l s a d
    finding_on {c} {d} e =
        let z : rest s b ≡ c ∷ rest s d = (char_at e h).chars in
        record { seek = seek_on i.seek (char_at e h) (ap (first l) z ∙ first_on l c (rest s d) (ap (begins l) (sym z) ∙ sym q ∙ n)) }
