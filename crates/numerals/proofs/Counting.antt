-- Digits and underscores: the run of them, and whether there is a digit. One set of laws, whatever the digits are.
use Prim.Native.Nat.{ℕ}
use mathlib.Core.Path.{◌≡◌, refl, sym, ◌∙◌}
use mathlib.Core.Bool.{Bool, true, false}
use mathlib.Core.List.{List}
use borrow.Author.Tests.{ne_eqb}
use Rattle.basics.specs.Choice.{or}
use Rattle.classes.specs.Identifiers.{underscore}
use Rattle.eaters.specs.Eat.{take_while}
use Rattle.token.specs.Numbers.{any}
use Rattle.cursor.specs.declared.Cursor.{Cursor}
use Rattle.std.specs.Prelude.{Option, None, Some}
use Rattle.cursor.specs.Cursors.{rest, Seen}
use Rattle.cursor.proofs.Moves.{char_at, end_at}
use Rattle.cursor.proofs.Loops.{Eaten, eaten_none, eaten_on, eaten_off, eaten_over}
use Rattle.numerals.specs.Counts.{CountedDigits}

-- digits of q, and underscores
abbrev pub spaced : (ℕ → Bool) → ℕ → Bool
spaced q c = or (q c) (underscore c)

-- The scan began at a and is at b: what is left to take from here is left from the start, and so is whether there is a digit, with those that were met.
pub record Counting (q : ℕ → Bool) (s : List ℕ) (a b : Cursor) (some : Bool) : Type 0 where
  pub eaten : Eaten (spaced q) s a b
  pub noted : or some (any q (take_while (spaced q) (rest s b))) ≡ any q (take_while (spaced q) (rest s a))

or_false : (b : Bool) → or b false ≡ b
or_false true = refl
or_false false = refl

or_true : (b : Bool) → or b true ≡ true
or_true true = refl
or_true false = refl

or_assoc : (a b c : Bool) → or (or a b) c ≡ or a (or b c)
or_assoc true b c = refl
or_assoc false b c = refl

pub count_none : (q : ℕ → Bool) (s : List ℕ) (a : Cursor) → Counting q s a a false
count_none q s a = record { eaten = eaten_none (spaced q) s a; noted = refl }

module _ (q : ℕ → Bool) {s : List ℕ} {a b : Cursor} {some : Bool} {r : Option (ℕ × Cursor)} (i : Counting q s a b some) (h : Seen s b r) where
  module _ {c : ℕ} {d : Cursor} (e : r ≡ Some (c, d)) where
    noted_on : (more : Bool) → spaced q c ≡ true → or some (q c) ≡ more → or more (any q (take_while (spaced q) (rest s d))) ≡ any q (take_while (spaced q) (rest s a))
    noted_on more y o = rw (← o) (or_assoc some (q c) (any q (take_while (spaced q) (rest s d))) ∙ (rw ((char_at e h).chars, y) at i.noted))

    noted_off : spaced q c ≡ false → some ≡ any q (take_while (spaced q) (rest s a))
    noted_off n = sym (or_false some) ∙ (rw ((char_at e h).chars, n) at i.noted)

    module _ {t : Bool} (f : t ≡ q c) where
      pub count_digit : t ≡ true → Counting q s a d true
      count_digit y =
          let v : spaced q c ≡ true = rw (← f, y) in
          record { eaten = eaten_on (spaced q) i.eaten h e (sym v) refl; noted = noted_on true v (rw (← f, y) (or_true some)) }

      pub count_underscore : t ≡ false → c ≡ 0x5F → Counting q s a d some
      count_underscore n u =
          let v : spaced q c ≡ true = rw (← f, n, u) in
          record { eaten = eaten_on (spaced q) i.eaten h e (sym v) refl; noted = noted_on some v (rw (← f, n) (or_false some)) }

      pub count_off : t ≡ false → (c ≡ 0x5F → ⊥) → CountedDigits (spaced q) q s a (record { next = b; some = some })
      count_off n u =
          let v : spaced q c ≡ false = rw (← f, n) (ne_eqb c 0x5F u) in
          record { moved = eaten_off (spaced q) i.eaten h e (sym v) refl; noted = noted_off v }

  pub count_over : r ≡ None → CountedDigits (spaced q) q s a (record { next = b; some = some })
  count_over e = record { moved = eaten_over (spaced q) i.eaten h e; noted = sym (or_false some) ∙ (rw (end_at e h) at i.noted) }
