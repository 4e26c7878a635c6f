-- Runs of ASCII. Bytes that are joined by `|` are below 0x80 only where each of them is; n bytes of ASCII are n characters.
use Prim.Native.Nat.{ℕ, zero, suc, ◌+◌, ◌≤◌, ◌<◌}
use mathlib.Core.Path.{◌≡◌, refl}
use mathlib.Core.Bool.{true}
use mathlib.Core.List.{List}
use borrow.Author.Count.{below_more}
use borrow.Author.Tests.{ltb-true}
use lib.Bits.{bit_or, or_add_and, and_le_r, or_comm}
use lib.Dec.{ltb}
use lib.ListN.{length, get_or}
use native.Mathlib.Numerals.{unary_clauses}
use native.Mathlib.Omega.{arith}
use Rattle.text.specs.Ascii.{AsciiRun}
use Rattle.text.proofs.Places.{at_ascii, Reached, reached_more}

or_left : (a b : ℕ) → a ≤ bit_or a b
or_left a b = omega (arith, or_add_and a b, and_le_r a b)

or_right : (a b : ℕ) → b ≤ bit_or a b
or_right a b = rw (or_comm a b) (or_left b a)

-- THE LOOK AT EIGHT BYTES: they are there, and the first i of them are joined in `bits`
pub record Joined (s : List ℕ) (at bits i : ℕ) : Type 0 where
  pub count : i ≤ 8
  pub room : at + 8 ≤ length s
  pub low : bits < 0x80 → (k : ℕ) → k < i → get_or s (at + k) 0 < 0x80

module _ (s : List ℕ) (at : ℕ) where
  pub joined_more : {bits i : ℕ} → Joined s at bits i → i < 8 → Joined s at (bit_or bits (get_or s (at + i) 0)) (i + 1)
  joined_more {bits} {i} j n =
      let b = get_or s (at + i) 0 in
      record {
        count = omega arith;
        room = j.room;
        low = λ l. below_more (λ (k : ℕ). get_or s (at + k) 0 < 0x80) i (j.low (omega (arith, or_left bits b))) (omega (arith, or_right bits b));
      }

  pub joined_all : {bits i : ℕ} → Joined s at bits i → 8 ≤ i → ltb bits 0x80 ≡ true → AsciiRun s at 8
  joined_all {bits} {i} j n e = record { room = j.room; low = λ k l. j.low (ltb-true bits 0x80 e) k (omega (arith, l)) }

-- OVER A RUN: what goes from the place of a byte of ASCII to the next place goes over a run of them
pub over_run : (s : List ℕ) (P : ℕ → Type 0) → ((i : ℕ) → i < length s → get_or s i 0 < 0x80 → P i → P (i + 1)) → {at : ℕ} (n : ℕ) → P at → AsciiRun s at n → P (at + n)
over_run s P more {at} zero g r = simp unary_clauses g
over_run s P more {at} (suc n) g r =
    let h : at + n + 1 ≡ at + suc n = omega arith in
    rw h at (more (at + n) (omega (arith, r.room)) (r.low n (omega arith)) (over_run s P more n g (record { room = omega (arith, r.room); low = λ k l. r.low k (omega (arith, l)) })))

-- the check of a text goes on past them
pub reached_run : (s : List ℕ) {at : ℕ} (n : ℕ) → Reached s at → AsciiRun s at n → Reached s (at + n)
reached_run s n g r = over_run s (Reached s) (λ i h l g. reached_more s g (at_ascii s i h refl l) refl) n g r
