-- Where a shebang ends, in the facts of the code.
use Prim.Native.Nat.{ℕ, ◌+◌}
use mathlib.Core.Path.{◌≡◌, refl, sym, ap, ◌∙◌}
use mathlib.Core.Bool.{Bool, true, false}
use mathlib.Core.List.{List, [], ◌∷◌}
use lib.ListN.{get_or, drop}
use native.Mathlib.Omega.{arith}
use borrow.Author.Tests.{ne_eqb}
use Rattle.basics.specs.Choice.{pick}
use Rattle.text.specs.Chars.{chars, width}
use Rattle.eaters.specs.Find.{at, nowhere}
use Rattle.token.specs.Lists.{Lists, none}
use Rattle.token.specs.Shebang.{line_bytes, shebang, bracketed}
use Rattle.cursor.specs.declared.Cursor.{Cursor}
use Rattle.cursor.specs.Cursors.{rest}
use Rattle.cursor.specs.Moved.{Moved}
use Rattle.cursor.proofs.Steps.{rest_at}
use Rattle.cursor.proofs.Moves.{bumped}
use Rattle.cursor.proofs.Bytes.{bump_bytes}
use Rattle.std.specs.Prelude.{None, Some}
use Rattle.shebang.specs.Answers.{shebang_at, ShebangEnds}
use Rattle.shebang.proofs.AnyLists.{any_bracket}

-- the clauses of the rule
no_hash : (L : Lists) (cs : List ℕ) → (get_or cs 0 0 ≡ 0x23 → ⊥) → shebang L cs ≡ nowhere
unfolding shebang
no_hash L [] n = refl
no_hash L (a ∷ []) n = refl
no_hash L (a ∷ b ∷ cs) n = rw (ne_eqb a 0x23 n)

no_mark : (L : Lists) (cs : List ℕ) → (get_or cs 0 0 ≡ 0x21 → ⊥) → shebang L (0x23 ∷ cs) ≡ nowhere
unfolding shebang
no_mark L [] n = refl
no_mark L (b ∷ cs) n = rw (ne_eqb b 0x21 n)

marked : (L : Lists) (cs : List ℕ) → shebang L (0x23 ∷ 0x21 ∷ cs) ≡ pick (bracketed none cs) nowhere (at (2 + line_bytes cs))
unfolding shebang
marked L cs = ap (λ (t : Bool). pick t nowhere (at (2 + line_bytes cs))) (any_bracket L none cs)

-- from the start of the text
module _ (s : List ℕ) {a : Cursor} (z : a.at ≡ 0) {c : ℕ} (e : c ≡ get_or (rest s a) 0 0) where
  whole : chars s ≡ rest s a
  whole = sym (rest_at s a z)

  pub absent_hash : (c ≡ 0x23 → ⊥) → ShebangEnds s None
  absent_hash n = record { place = λ L. ap shebang_at (sym (ap (shebang L) whole ∙ no_hash L (rest s a) (λ k. n (e ∙ k)))) }

  module _ (h : c ≡ 0x23) {b : Cursor} (m : Moved s a b (drop 1 (rest s a))) {d : ℕ} (f : d ≡ get_or (rest s b) 0 0) where
    hash : chars s ≡ 0x23 ∷ rest s b
    hash = whole ∙ bumped e (omega arith) m ∙ ap (λ (k : ℕ). k ∷ rest s b) h

    pub absent_mark : (d ≡ 0x21 → ⊥) → ShebangEnds s None
    absent_mark n = record { place = λ L. ap shebang_at (sym (ap (shebang L) hash ∙ no_mark L (rest s b) (λ k. n (f ∙ k)))) }

    module _ (g : d ≡ 0x21) {o : Cursor} (w : Moved s b o (drop 1 (rest s b))) {u : Bool} (q : u ≡ bracketed none (rest s o)) where
      by_mark : (L : Lists) → shebang L (chars s) ≡ pick u nowhere (at (2 + line_bytes (rest s o)))
      by_mark L =
          ap (shebang L) (hash ∙ ap (λ (l : List ℕ). 0x23 ∷ l) (bumped f (omega arith) w) ∙ ap (λ (k : ℕ). 0x23 ∷ k ∷ rest s o) g)
          ∙ marked L (rest s o)
          ∙ ap (λ (t : Bool). pick t nowhere (at (2 + line_bytes (rest s o)))) (sym q)

      pub absent_bracket : u ≡ true → ShebangEnds s None
      absent_bracket t = record { place = λ L. ap shebang_at (sym (rw t at (by_mark L))) }

      two : o.at ≡ 2
      unfolding width
      two =
          let i : width c ≡ 1 = ap width h in
          let j : width d ≡ 1 = ap width g in
          omega (arith, z, bump_bytes e (omega arith) m, bump_bytes f (omega arith) w, i, j)

      pub ends_line : {p : Cursor} {n : ℕ} → u ≡ false → p.at ≡ o.at + line_bytes (rest s o) → n ≡ p.at → ShebangEnds s (Some n)
      ends_line t l y = record { place = λ L. ap shebang_at (ap at (y ∙ l ∙ ap (λ (k : ℕ). k + line_bytes (rest s o)) two) ∙ sym (rw t at (by_mark L))) }
