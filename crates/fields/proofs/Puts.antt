-- A number laid digit by digit from the last one on is the number as it is written; and how many digits that is.
use Prim.Native.Nat.{ℕ, zero, suc, ◌+◌, ◌-◌, ◌*◌, ◌/◌, ◌%◌, ◌^◌, ◌≤◌, ◌<◌}
use mathlib.Core.Path.{◌≡◌, sym, ap, ◌∙◌}
use mathlib.Core.List.{List, [], ◌∷◌, ◌++◌, append_assoc}
use mathlib.Core.Logic.{⊎_elim}
use borrow.Author.Tests.{lt-ltb, le-ltb}
use lib.Dec.{ltb}
use lib.ListN.{length, drop, set, length-append, length-drop, length-set}
use native.Mathlib.Nat.{pow-suc, pow-zero, mod-lt, div-add-mod', div-lt_iff_lt-mul, le-div_iff_mul-le, div-lt_self, div-eq_of_lt, mod-eq_of_lt, mul-le-mul_left, mul-le-mul_right}
use native.Mathlib.Omega.{arith}
use Rattle.std.proofs.lemmas.List.{drop-set}
use Rattle.basics.proofs.Choices.{below_or_not, by_pick}
use Rattle.fields.specs.Numerals.{digit_byte, lowest_digits, numeral, Base}
use Rattle.fields.proofs.Numerals.{numeral_snoc, one_digit}

-- THE DIGITS LAID from the last one on: those of `rest` are still to be laid, in front of those that stand from `at` on
pub record Laying (base n : ℕ) (room : List ℕ) (rest at : ℕ) : Type 0 where
  pub whole : numeral base n ≡ numeral base rest ++ drop at room
  pub within : at ≤ length room

module _ {base : ℕ} (b : Base base) where
  -- a power is above its exponent
  above : (i : ℕ) → i < base ^ i
  above zero = omega (arith, pow-zero base)
  above (suc i) =
      let h : base ^ i * 2 ≤ base ^ i * base = mul-le-mul_left (base ^ i) b.least in
      omega (arith, pow-suc base i, above i)

  -- a number below a power has at most as many digits as the exponent says
  few_last : (k most n : ℕ) → n < base ^ suc k → length (lowest_digits base most n) ≤ suc k
  few_last k zero n h = omega arith
  few_last zero (suc most) n h =
      let p : base ^ 1 ≡ base = pow-suc base 0 ∙ ap (λ (x : ℕ). x * base) (pow-zero base) ∙ omega arith in
      let l : n < base = omega arith in
      rw (lt-ltb n base l) (omega arith)
  few_last (suc k) (suc most) n h =
      ⊎_elim
      (λ (l : n < base). rw (lt-ltb n base l) (omega arith))
      (λ (l : base ≤ n). rw (le-ltb n base l) (more (few_last k most (n / base) divided)))
      (below_or_not n base)
    where
      divided : n / base < base ^ suc k
      divided =
          let z : 0 < base = omega (arith, b.least) in
          let m : n < base ^ suc k * base = omega (arith, pow-suc base (suc k)) in
          (div-lt_iff_lt-mul z).1 m

      more : length (lowest_digits base most (n / base)) ≤ suc k → length (lowest_digits base most (n / base) ++ (digit_byte (n % base) ∷ [])) ≤ suc (suc k)
      more f = omega (arith, length-append (lowest_digits base most (n / base)) (digit_byte (n % base) ∷ []))

  pub few_digits : (k n : ℕ) → n < base ^ suc k → length (numeral base n) ≤ suc k
  unfolding numeral
  few_digits k n h = few_last k (suc n) n h

  -- and one from a power on has more
  some_last : (most n : ℕ) → n < most → 1 ≤ length (lowest_digits base most n)
  some_last zero n h = absurd (omega arith)
  some_last (suc most) n h = by_pick (λ (s : List ℕ). 1 ≤ length s) (ltb n base) _ _ (λ _. omega arith) (λ _. omega (arith, length-append (lowest_digits base most (n / base)) (digit_byte (n % base) ∷ [])))

  more_last : (k most n : ℕ) → n < most → base ^ k ≤ n → suc k ≤ length (lowest_digits base most n)
  more_last zero most n h l = some_last most n h
  more_last (suc k) zero n h l = absurd (omega arith)
  more_last (suc k) (suc most) n h l =
      let z : 0 < base = omega (arith, b.least) in
      let p : base ^ k * base ≤ n = omega (arith, pow-suc base k) in
      let o : 1 * base ≤ base ^ k * base = mul-le-mul_right base (omega (arith, above k)) in
      let d : n / base < n = div-lt_self {n = n} {k = base} (omega arith) (omega (arith, b.least)) in
      let m : suc k ≤ length (lowest_digits base most (n / base)) = more_last k most (n / base) (omega arith) ((le-div_iff_mul-le z).1 p) in
      rw (le-ltb n base (omega arith)) (omega (arith, length-append (lowest_digits base most (n / base)) (digit_byte (n % base) ∷ [])))

  pub more_digits : (k n : ℕ) → base ^ k ≤ n → suc k ≤ length (numeral base n)
  unfolding numeral
  more_digits k n h = more_last k (suc n) n (omega arith) h

  -- any number has a digit
  some_digits : (n : ℕ) → 1 ≤ length (numeral base n)
  unfolding numeral
  some_digits n = some_last (suc n) n (omega arith)

  -- a number that is more than a digit is its last digit after the number of the others
  parted_digit : (n : ℕ) → base ≤ n → numeral base n ≡ numeral base (n / base) ++ (digit_byte (n % base) ∷ [])
  parted_digit n h =
      let z : 0 < base = omega (arith, b.least) in
      let o : 1 ≤ n / base = (le-div_iff_mul-le z).1 (omega arith) in
      ap (numeral base) (sym (div-add-mod' n base)) ∙ numeral_snoc b (n / base) (n % base) o (mod-lt n z)

  -- a digit laid in front of those that stand
  digit_laid : (front : List ℕ) (c at : ℕ) (room : List ℕ) → 0 < at → at ≤ length room → (front ++ (c ∷ [])) ++ drop at room ≡ front ++ drop (at - 1) (set room (at - 1) c)
  digit_laid front c at room h w =
      let e : at - 1 + 1 ≡ at = omega arith in
      append_assoc front (c ∷ []) (drop at room) ∙ ap (λ (l : List ℕ). front ++ l) (ap (λ (k : ℕ). c ∷ drop k room) (sym e) ∙ sym (drop-set room (at - 1) c (omega arith)))

  module _ {n rest at : ℕ} {room : List ℕ} (l : Laying base n room rest at) (r : length (numeral base n) ≤ length room) where
    -- where digits are to be laid, there is room for one
    pub lay_room : 0 < at
    lay_room =
        let s : 1 ≤ length (numeral base rest) = some_digits rest in
        omega (arith, ap length l.whole, length-append (numeral base rest) (drop at room), length-drop at room, l.within)

    pub lay_on : {c : ℕ} → c ≡ digit_byte (rest % base) → (rest / base ≡ 0 → ⊥) → Laying base n (set room (at - 1) c) (rest / base) (at - 1)
    lay_on {c} e h =
        let more : base ≤ rest = ⊎_elim (λ (s : rest < base). absurd (h (div-eq_of_lt s))) (λ (g : base ≤ rest). g) (below_or_not rest base) in
        record {
          whole = l.whole ∙ ap (λ (p : List ℕ). p ++ drop at room) (parted_digit rest more) ∙ rw (← e) (digit_laid (numeral base (rest / base)) c at room lay_room l.within);
          within = simp length-set (omega (arith, l.within));
        }

    pub lay_ends : {c : ℕ} → c ≡ digit_byte (rest % base) → rest / base ≡ 0 → drop (at - 1) (set room (at - 1) c) ≡ numeral base n
    lay_ends {c} e h =
        let z : 0 < base = omega (arith, b.least) in
        let last : rest < base = ⊎_elim (λ (s : rest < base). s) (λ (g : base ≤ rest). let some : 1 ≤ rest / base = (le-div_iff_mul-le z).1 (omega arith) in absurd (omega arith)) (below_or_not rest base) in
        let d : c ≡ digit_byte rest = e ∙ ap digit_byte (mod-eq_of_lt last) in
        sym (l.whole ∙ ap (λ (p : List ℕ). p ++ drop at room) (one_digit b rest last) ∙ rw (← d) (digit_laid [] c at room lay_room l.within))

pub ten : Base 10
ten = record { least = omega arith; most = omega arith }

pub sixteen : Base 16
sixteen = record { least = omega arith; most = omega arith }
