-- The number that a field says: digits from the left.
use Prim.Native.Nat.{ℕ, suc, ◌+◌, ◌-◌, ◌*◌, ◌≤◌, ◌<◌}
use mathlib.Core.Path.{◌≡◌, refl, sym, ap, ◌∙◌}
use mathlib.Core.Bool.{Bool, true, false}
use mathlib.Core.List.{List, [], ◌∷◌}
use borrow.Author.Tests.{lt-ltb, ltb-true, le-leb, lt-leb}
use lib.ListN.{length, drop, get_or, drop_of_length-le}
use lib.Dec.{ltb, leb}
use lib.Seq.{drop-cons}
use native.Mathlib.Nat.{mul-le-mul_left}
use native.Mathlib.Numerals.{add-one}
use native.Mathlib.Omega.{arith}
use Rattle.basics.specs.Choice.{pick, and}
use Rattle.basics.specs.Tests.{all}
use Rattle.basics.proofs.Choices.{inside_within, under_within, over_within}
use Rattle.fields.specs.Numerals.{digit_of, is_digit, digit_in, value_from, unpadded, valued_from, number_of, Base}
use Rattle.std.specs.Prelude.{Option, Some, None}

-- the digit that a byte is
pub digit_low : (c : ℕ) → 48 ≤ c → c ≤ 57 → c - 48 ≡ digit_of c
digit_low c l h = rw (inside_within 48 57 c l h) refl

pub digit_letter : (c : ℕ) → 97 ≤ c → c ≤ 102 → c - 87 ≡ digit_of c
digit_letter c l h = rw (over_within 48 57 c (omega arith) (omega arith), inside_within 97 102 c l h) refl

pub digit_under : (c : ℕ) → c < 48 → 16 ≡ digit_of c
digit_under c h = rw (under_within 48 57 c h, under_within 97 102 c (omega arith)) refl

pub digit_between : (c : ℕ) → 57 < c → c < 97 → 16 ≡ digit_of c
digit_between c l h = rw (over_within 48 57 c (omega arith) l, under_within 97 102 c h) refl

pub digit_over : (c : ℕ) → 102 < c → 16 ≡ digit_of c
digit_over c h = rw (over_within 48 57 c (omega arith) (omega arith), over_within 97 102 c (omega arith) h) refl

-- MORE DIGITS make no number smaller
pub value_grows : {base : ℕ} → Base base → (n : ℕ) (s : List ℕ) → n ≤ value_from base n s
unfolding value_from
value_grows b n [] = omega arith
value_grows {base} b n (c ∷ s) =
    let h : n * 1 ≤ n * base = mul-le-mul_left n (omega (arith, b.least)) in
    omega (arith, h, value_grows b (n * base + digit_of c) s)

-- THE LOOP: the digits before place i say n, which is at most `most`; what they and those from i on say is what the field says
pub record Valuing (base most : ℕ) (s : List ℕ) (n i : ℕ) : Type 0 where
  pub same : valued_from base most n (drop i s) ≡ valued_from base most 0 s
  pub small : n ≤ most
  pub within : i ≤ length s

-- a byte's digit in a base
record Digit (base c d : ℕ) : Type 0 where
  is : d ≡ digit_of c
  small : d < base

digit_told : (base c : ℕ) {d : ℕ} → Some d ≡ digit_in base c → Digit base c d
digit_told base c {d} e = by_test (ltb (digit_of c) base) refl e
  where
    by_test : (t : Bool) → ltb (digit_of c) base ≡ t → Some d ≡ pick t (Some (digit_of c)) None → Digit base c d
    by_test true f e = let i : d ≡ digit_of c = cc in record { is = i; small = omega (arith, ltb-true (digit_of c) base f) }
    by_test false f e = absurd (cc)

module _ {base most : ℕ} {s : List ℕ} {n i d : ℕ} (v : Valuing base most s n i) (h : i < length s) (told : Some d ≡ digit_in base (get_or s i 0)) where
  digit : Digit base (get_or s i 0) d
  digit = digit_told base (get_or s i 0) told

  opened : valued_from base most n (drop i s) ≡ valued_from base most n (get_or s i 0 ∷ drop (suc i) s)
  opened = ap (valued_from base most n) (drop-cons s i 0 h)

  turned : {m : ℕ} → m ≡ n * base + d → valued_from base most n (drop i s) ≡ valued_from base most m (drop (i + 1) s)
  unfolding value_from
  turned f =
      let t : ltb (digit_of (get_or s i 0)) base ≡ true = lt-ltb _ base (omega (arith, digit.is, digit.small)) in
      opened ∙ rw (t, add-one i, f, digit.is) refl

  pub too_much : {m : ℕ} → Base base → m ≡ n * base + d → most < m → None ≡ valued_from base most 0 s
  too_much {m} b f l =
      let g : leb (value_from base m (drop (i + 1) s)) most ≡ false = lt-leb _ most (omega (arith, value_grows b m (drop (i + 1) s))) in
      sym (turned f ∙ rw g (and_false (all (is_digit base) (drop (i + 1) s)) (Some (value_from base m (drop (i + 1) s))))) ∙ v.same
    where
      and_false : (t : Bool) (x : Option ℕ) → pick (and t false) x None ≡ None
      and_false true x = refl
      and_false false x = refl

  pub value_on : {m : ℕ} → m ≡ n * base + d → m ≤ most → Valuing base most s m (i + 1)
  value_on f l = record { same = sym (turned f) ∙ v.same; small = l; within = omega arith }

pub value_ends : {base most : ℕ} {s : List ℕ} {n i : ℕ} → Valuing base most s n i → length s ≤ i → Some n ≡ valued_from base most 0 s
unfolding value_from
value_ends {base} {most} {s} {n} v h = sym (ap (valued_from base most n) (drop_of_length-le s h) ∙ rw (le-leb n most v.small) refl) ∙ v.same

-- the whole field
pub number_padded : (base most : ℕ) (s : List ℕ) {r : Bool} → r ≡ unpadded s → r ≡ false → None ≡ number_of base most s
unfolding number_of
number_padded base most s e f = rw (← e, f) refl

pub number_valued : (base most : ℕ) (s : List ℕ) {r : Bool} {q : Option ℕ} → r ≡ unpadded s → r ≡ true → q ≡ valued_from base most 0 s → q ≡ number_of base most s
unfolding number_of
number_valued base most s e f g = rw (← e, f) g
