-- Counting the characters x at a cursor, in the facts of the code: as many are counted as were passed; the others are still there.
use Prim.Native.Nat.{ℕ, suc, ◌+◌, ◌*◌, ◌^◌, ◌≤◌, ◌<◌}
use mathlib.Core.Path.{◌≡◌, refl, sym, ap}
use mathlib.Core.List.{List, ◌∷◌}
use mir.Val.{Fits}
use mir.Syntax.{w64}
use lib.ListN.{length}
use native.Mathlib.Omega.{arith}
use borrow.Author.Tests.{eq-eqb, ne_eqb}
use Rattle.eaters.specs.Eat.{take_while}
use Rattle.token.specs.Names.{is}
use Rattle.cursor.specs.declared.Cursor.{Cursor}
use Rattle.std.specs.Prelude.{Option, None, Some}
use Rattle.cursor.specs.Cursors.{rest, Seen}
use Rattle.cursor.specs.Counted.{Counted}
use Rattle.cursor.proofs.Steps.{rest_short}
use Rattle.cursor.proofs.Moves.{char_at, end_at}
use Rattle.cursor.proofs.Loops.{Eaten, eaten_none, eaten_on, eaten_off, eaten_over}

-- how many stand at the front
abbrev pub run : (x : ℕ) → List ℕ → ℕ
run x cs = length (take_while (is x) cs)

run_on : (x c : ℕ) (cs : List ℕ) → c ≡ x → run x (c ∷ cs) ≡ suc (run x cs)
run_on x c cs e = rw (eq-eqb c x e)

run_off : (x c : ℕ) (cs : List ℕ) → (c ≡ x → ⊥) → run x (c ∷ cs) ≡ 0
run_off x c cs n = rw (ne_eqb c x n)

pub record Counting (x : ℕ) (s : List ℕ) (a b : Cursor) (n : ℕ) : Type 0 where
  pub eaten : Eaten (is x) s a b
  pub count : n + run x (rest s b) ≡ run x (rest s a)
  pub few : n + length (rest s b) ≤ length (rest s a)

pub counting_none : (x : ℕ) (s : List ℕ) (a : Cursor) → Counting x s a a 0
counting_none x s a = record { eaten = eaten_none (is x) s a; count = omega arith; few = omega arith }

module _ {x : ℕ} {s : List ℕ} {a b : Cursor} {n : ℕ} {r : Option (ℕ × Cursor)} (i : Counting x s a b n) (h : Seen s b r) where
  module _ {c : ℕ} {d : Cursor} (e : r ≡ Some (c, d)) where
    pub counting_fits : length s * 1 < 2 ^ 63 → Fits w64 (n + 1)
    counting_fits g = record { fits = omega (arith, ap length (char_at e h).chars, i.few, rest_short s a) }

    pub counting_on : c ≡ x → Counting x s a d (n + 1)
    counting_on q =
        record {
          eaten = eaten_on (is x) i.eaten h e (sym (eq-eqb c x q)) refl;
          count = omega (arith, i.count, ap (run x) (char_at e h).chars, run_on x c (rest s d) q);
          few = omega (arith, i.few, ap length (char_at e h).chars);
        }

    pub counting_off : (c ≡ x → ⊥) → Counted x s a (record { next = b; count = n })
    counting_off q =
        record {
          moved = eaten_off (is x) i.eaten h e (sym (ne_eqb c x q)) refl;
          count = omega (arith, i.count, ap (run x) (char_at e h).chars, run_off x c (rest s d) q);
        }

  pub counting_over : r ≡ None → Counted x s a (record { next = b; count = n })
  counting_over e = record { moved = eaten_over (is x) i.eaten h e; count = omega (arith, i.count, ap (run x) (end_at e h)) }
