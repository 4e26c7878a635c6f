-- The end of a line, in the facts of the code.
use Prim.Native.Nat.{ℕ, ◌+◌}
use mathlib.Core.Path.{◌≡◌, refl, sym, ap, ◌∙◌}
use mathlib.Core.List.{List, [], ◌∷◌}
use lib.ListN.{get_or}
use native.Mathlib.Omega.{arith}
use borrow.Author.Tests.{ne_eqb}
use Rattle.text.specs.Chars.{width}
use Rattle.token.specs.Shebang.{line_bytes}
use Rattle.cursor.specs.declared.Cursor.{Cursor}
use Rattle.std.specs.Prelude.{Option, None, Some}
use Rattle.cursor.specs.Cursors.{rest, Seen}
use Rattle.cursor.proofs.Moves.{char_at, end_at}

-- the clauses of the rule
none : line_bytes [] ≡ 0
unfolding line_bytes
none = refl

at_newline : (c : ℕ) (cs : List ℕ) → c ≡ 0x0A → line_bytes (c ∷ cs) ≡ 0
unfolding line_bytes
at_newline c cs e = rw e

at_both : (c : ℕ) (cs : List ℕ) → c ≡ 0x0D → get_or cs 0 0 ≡ 0x0A → line_bytes (c ∷ cs) ≡ 0
unfolding line_bytes
at_both c cs e f = rw (e, f)

at_return : (c : ℕ) (cs : List ℕ) → c ≡ 0x0D → (get_or cs 0 0 ≡ 0x0A → ⊥) → line_bytes (c ∷ cs) ≡ width c + line_bytes cs
unfolding line_bytes
at_return c cs e n = rw (e, ne_eqb (get_or cs 0 0) 0x0A n)

at_other : (c : ℕ) (cs : List ℕ) → (c ≡ 0x0A → ⊥) → (c ≡ 0x0D → ⊥) → line_bytes (c ∷ cs) ≡ width c + line_bytes cs
unfolding line_bytes
at_other c cs n m = rw (ne_eqb c 0x0A n, ne_eqb c 0x0D m)

-- the line began at a; the cursor is at b, and it ends where it ends from there
pub record Lined (s : List ℕ) (a b : Cursor) : Type 0 where
  pub same : b.at + line_bytes (rest s b) ≡ a.at + line_bytes (rest s a)

module _ {s : List ℕ} {a b : Cursor} {r : Option (ℕ × Cursor)} (h : Seen s b r) (i : Lined s a b) where
  stop : line_bytes (rest s b) ≡ 0 → b.at ≡ a.at + line_bytes (rest s a)
  stop e = omega (arith, i.same, e)

  pub line_over : r ≡ None → b.at ≡ a.at + line_bytes (rest s a)
  line_over x = stop (ap line_bytes (end_at x h) ∙ none)

  module _ {c : ℕ} {n : Cursor} (x : r ≡ Some (c, n)) where
    stop_at : line_bytes (c ∷ rest s n) ≡ 0 → b.at ≡ a.at + line_bytes (rest s a)
    stop_at e = stop (ap line_bytes (char_at x h).chars ∙ e)

    on : line_bytes (c ∷ rest s n) ≡ width c + line_bytes (rest s n) → Lined s a n
    on e = record { same = omega (arith, i.same, ap line_bytes (char_at x h).chars, e, (char_at x h).bytes) }

    pub line_stop : c ≡ 0x0A → b.at ≡ a.at + line_bytes (rest s a)
    line_stop e = stop_at (at_newline c (rest s n) e)

    pub line_on : (c ≡ 0x0A → ⊥) → (c ≡ 0x0D → ⊥) → Lined s a n
    line_on p q = on (at_other c (rest s n) p q)

    module _ {d : ℕ} (f : d ≡ get_or (rest s n) 0 0) (e : c ≡ 0x0D) where
      pub line_both : d ≡ 0x0A → b.at ≡ a.at + line_bytes (rest s a)
      line_both g = stop_at (at_both c (rest s n) e (sym f ∙ g))

      pub line_return : (d ≡ 0x0A → ⊥) → Lined s a n
      line_return g = on (at_return c (rest s n) e (λ k. g (f ∙ k)))
