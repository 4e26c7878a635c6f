-- The recovery of a frontmatter without a closing fence, in the facts of the code.
use Prim.Native.Nat.{ℕ, zero, suc, ◌<◌}
use mathlib.Core.Path.{◌≡◌, refl, sym, ap, subst, ◌∙◌}
use mathlib.Core.Bool.{Bool, true, false}
use mathlib.Core.List.{List, [], ◌∷◌}
use lib.ListN.{length, drop, length-drop}
use native.Mathlib.Omega.{arith}
use Rattle.basics.specs.Choice.{pick}
use Rattle.eaters.specs.Find.{Place, at, nowhere, further, or_else}
use Rattle.eaters.specs.Look.{begins}
use Rattle.eaters.proofs.Fits.{begins_long}
use Rattle.token.specs.Frontmatter.{dashes, first, still_blank, last_search, recovery, use_line, doc_line, attribute_line}
use Rattle.cursor.specs.declared.Cursor.{Cursor}
use Rattle.std.specs.Prelude.{Option, None, Some, MatchOption}
use Rattle.cursor.specs.Cursors.{rest, Seen}
use Rattle.cursor.specs.Moved.{Moved, left_of}
use Rattle.cursor.proofs.Moves.{char_at, end_at}
use Rattle.frontmatter.specs.Searches.{SoughtAt, there, gone}
use Rattle.frontmatter.proofs.Seeks.{shift, shift_none, shift_more, Seeking, seek_past, seek_on, seek_here, seek_gone}
use Rattle.frontmatter.proofs.Fences.{fence}

-- THE LAST SEARCH, one step of the definition
abbrev last : Bool → List ℕ → Place
last blank cs = last_search 0 blank cs

last_none : (blank : Bool) → last blank [] ≡ nowhere
unfolding last_search
last_none blank = refl

last_skip : (k : ℕ) (cs : List ℕ) → last_search k true cs ≡ shift k (last true (drop k cs))
unfolding last_search
last_skip zero cs = shift_none (last true cs)
last_skip (suc k) [] = refl
last_skip (suc k) (c ∷ cs) = ap further (last_skip k cs) ∙ shift_more k (last true (drop k cs))

last_here : (cs : List ℕ) → begins (dashes 3) cs ≡ true → last true cs ≡ at 0
unfolding last_search
last_here [] e = let z : ◌≡◌ {A = ℕ} 0 1 = cc in absurd (omega arith)
last_here (c ∷ cs) e = ap (λ (t : Bool). pick t (at 0) (further (last_search 0 (still_blank true c) cs))) e

last_again : (cs : List ℕ) → begins (dashes 3) cs ≡ true → last false cs ≡ shift 3 (last true (drop 3 cs))
unfolding last_search
last_again [] e = refl
last_again (c ∷ cs) e =
    ap (λ (t : Bool). pick t (further (last_search 2 true cs)) (further (last_search 0 (still_blank false c) cs))) e
    ∙ ap further (last_skip 2 cs) ∙ shift_more 2 (last true (drop 2 cs))

last_on : (blank : Bool) (c : ℕ) (cs : List ℕ) → begins (dashes 3) (c ∷ cs) ≡ false → last blank (c ∷ cs) ≡ further (last (still_blank blank c) cs)
unfolding last_search
last_on blank c cs e = ap (λ (t : Bool). pick t (pick blank (at 0) (further (last_search 2 true cs))) (further (last_search 0 (still_blank blank c) cs))) e

-- the search from here is the search from the start
pub record Lasting (s : List ℕ) (a b : Cursor) (blank : Bool) : Type 0 where
  pub seek : Seeking s a b (last_search 0 true (rest s a)) (last_search 0 blank (rest s b))

module _ {s : List ℕ} {a b : Cursor} {blank : Bool} (i : Lasting s a b blank) {t : Bool} (q : t ≡ begins (dashes 3) (rest s b)) where
  module _ (y : t ≡ true) where
    pub lasting_found : blank ≡ true → SoughtAt s a (last_search 0 true (rest s a)) (Some b)
    lasting_found h = seek_here i.seek (ap (λ (z : Bool). last z (rest s b)) h ∙ last_here (rest s b) (sym q ∙ y))

    pub lasting_again : {d : Cursor} → blank ≡ false → Moved s b d (drop 3 (rest s b)) → Lasting s a d true
    lasting_again {d} h m =
        record {
          seek =
              seek_past i.seek 3 m
              (ap (λ (z : Bool). last z (rest s b)) h ∙ last_again (rest s b) (sym q ∙ y) ∙ ap (λ (x : List ℕ). shift 3 (last true x)) (sym (left_of m)));
        }

    pub lasting_less : {d : Cursor} → Moved s b d (drop 3 (rest s b)) → length (rest s d) < length (rest s b)
    lasting_less m = omega (arith, begins_long (dashes 3) (rest s b) (sym q ∙ y), ap length (left_of m), length-drop 3 (rest s b))

  module _ (n : t ≡ false) {r : Option (ℕ × Cursor)} (h : Seen s b r) where
    pub lasting_over : r ≡ None → SoughtAt s a (last_search 0 true (rest s a)) None
    lasting_over e = seek_gone i.seek (ap (last blank) (end_at e h) ∙ last_none blank)

    pub lasting_on : {c : ℕ} {d : Cursor} {w : Bool} → r ≡ Some (c, d) → w ≡ still_blank blank c → Lasting s a d w
    lasting_on {c} {d} {w} e f =
        let z : rest s b ≡ c ∷ rest s d = (char_at e h).chars in
        record {
          seek =
              seek_on i.seek (char_at e h)
              (ap (last blank) z ∙ last_on blank c (rest s d) (ap (begins (dashes 3)) (sym z) ∙ sym q ∙ n) ∙ ap (λ (v : Bool). further (last v (rest s d))) (sym f));
        }

-- THE SEARCHES IN THEIR ORDER: one, or the next where it finds nothing
or_next : (p q : Place) {s : List ℕ} {a : Cursor} (r : Option Cursor) {o : Option Cursor} {P : Type 0} → SoughtAt s a p r → MatchOption r P (λ x. o ≡ Some x) → (P → SoughtAt s a q o) → SoughtAt s a (or_else p q) o
or_next p q None gone k f = f k
or_next p q {s} {a} (Some x) (there {k} m) e f = subst (SoughtAt s a (or_else (at k) q)) (sym e) (there m)

joined : (p q o : Place) → or_else (or_else p q) o ≡ or_else p (or_else q o)
joined (at k) q o = refl
joined nowhere q o = refl

module _ {s : List ℕ} {a : Cursor} {r : Option Cursor} (k : SoughtAt s a (further (fence 3 (rest s a))) r) (r₁ r₂ r₃ r₄ : Option Cursor) {P₁ P₂ P₃ P₄ : Type 0} where
  pub recovered : MatchOption r P₁ (λ x. r₁ ≡ Some x) → (P₁ → SoughtAt s a (first use_line (rest s a)) r₁)
      → MatchOption r₁ P₂ (λ x. r₂ ≡ Some x) → (P₂ → SoughtAt s a (first doc_line (rest s a)) r₂)
      → MatchOption r₂ P₃ (λ x. r₃ ≡ Some x) → (P₃ → SoughtAt s a (first attribute_line (rest s a)) r₃)
      → MatchOption r₃ P₄ (λ x. r₄ ≡ Some x) → (P₄ → SoughtAt s a (last_search 0 true (rest s a)) r₄)
      → SoughtAt s a (recovery (rest s a)) r₄
  recovered m₁ f₁ m₂ f₂ m₃ f₃ m₄ f₄ =
      let p = further (fence 3 (rest s a)) in
      let q = first use_line (rest s a) in
      let o = first doc_line (rest s a) in
      let u = first attribute_line (rest s a) in
      let w = last_search 0 true (rest s a) in
      let e = joined (or_else (or_else p q) o) u w ∙ joined (or_else p q) o (or_else u w) ∙ joined p q (or_else o (or_else u w)) in
      subst (λ (z : Place). SoughtAt s a z r₄) e
      (or_next _ w r₃ (or_next _ u r₂ (or_next _ o r₁ (or_next _ q r k m₁ f₁) m₂ f₂) m₃ f₃) m₄ f₄)
