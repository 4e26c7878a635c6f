-- A number as it is written, and the number that a field says, are each other's inverse.
use Prim.Native.Nat.{ℕ, zero, suc, ◌+◌, ◌-◌, ◌*◌, ◌/◌, ◌%◌, ◌≤◌, ◌<◌}
use mathlib.Core.Path.{◌≡◌, refl, sym, ap, ◌∙◌}
use mathlib.Core.Bool.{Bool, true, false, not}
use mathlib.Core.Logic.{◌⊎◌, inl, inr, ⊎_elim}
use mathlib.Core.List.{List, [], ◌∷◌, ◌++◌, append_assoc, append-nil}
use borrow.Author.Tests.{lt-ltb, le-ltb, ltb-true, leb-true, le-leb, eq-eqb, ne_eqb, eqb-false, not-true}
use lib.ListN.{length, get_or, length-append, get_or-append}
use lib.Dec.{ltb, leb, eqb}
use native.Mathlib.Nat.{mod-lt, div-lt_self, div-add-mod', mul-add-div_right, mul-add-mod_self_right, mod-eq_of_lt, div-eq_of_lt, mul-le-mul_left, mul-le-mul_right}
use native.Mathlib.Omega.{arith}
use Rattle.basics.specs.Choice.{pick, and, or}
use Rattle.basics.specs.Tests.{all, is_in}
use Rattle.basics.proofs.Choices.{below_or_not, and_1, and_2, and_both}
use Rattle.fields.specs.Numerals.{digit_byte, lowest_digits, numeral, digit_of, is_digit, value_from, unpadded, valued_from, number_of, Base}
use Rattle.std.specs.Prelude.{Some, None}
use Rattle.fields.proofs.Cuts.{unmarked_append}
use Rattle.fields.proofs.Values.{digit_low, digit_letter, digit_under, digit_between, digit_over}

-- THE BYTE of a digit, and the digit of a byte
byte_low : (d : ℕ) → d < 10 → digit_byte d ≡ 48 + d
byte_low d h = rw (lt-ltb d 10 h) refl

byte_high : (d : ℕ) → 10 ≤ d → digit_byte d ≡ 87 + d
byte_high d h = rw (le-ltb d 10 h) refl

pub digit_of_byte : (d : ℕ) → d < 16 → digit_of (digit_byte d) ≡ d
digit_of_byte d h = ⊎_elim low high (below_or_not d 10)
  where
    low : d < 10 → digit_of (digit_byte d) ≡ d
    low l = ap digit_of (byte_low d l) ∙ sym (digit_low (48 + d) (omega arith) (omega arith)) ∙ omega arith

    high : 10 ≤ d → digit_of (digit_byte d) ≡ d
    high l = ap digit_of (byte_high d l) ∙ sym (digit_letter (87 + d) (omega arith) (omega arith)) ∙ omega arith

pub byte_of_digit : (c : ℕ) → digit_of c < 16 → digit_byte (digit_of c) ≡ c
byte_of_digit c h =
    ⊎_elim
    (λ (u : c < 48). absurd (omega (arith, digit_under c u)))
    (λ (u : 48 ≤ c). ⊎_elim
    (λ (v : c < 58). ap digit_byte (sym (digit_low c u (omega arith))) ∙ byte_low (c - 48) (omega arith) ∙ omega arith)
    (λ (v : 58 ≤ c). ⊎_elim
    (λ (w : c < 97). absurd (omega (arith, digit_between c (omega arith) w)))
    (λ (w : 97 ≤ c). ⊎_elim
    (λ (x : c < 103). ap digit_byte (sym (digit_letter c w (omega arith))) ∙ byte_high (c - 87) (omega arith) ∙ omega arith)
    (λ (x : 103 ≤ c). absurd (omega (arith, digit_over c (omega arith))))
    (below_or_not c 103))
    (below_or_not c 97))
    (below_or_not c 58))
    (below_or_not c 48)

-- no digit's byte is a tab or a newline
pub digit_byte_large : (d : ℕ) → 48 ≤ digit_byte d
digit_byte_large d = ⊎_elim (λ (h : d < 10). omega (arith, byte_low d h)) (λ (h : 10 ≤ d). omega (arith, byte_high d h)) (below_or_not d 10)

-- THE VALUE of a number as it is written
value_snoc : (base n : ℕ) (s : List ℕ) (c : ℕ) → value_from base n (s ++ (c ∷ [])) ≡ value_from base n s * base + digit_of c
unfolding value_from
value_snoc base n [] c = refl
value_snoc base n (d ∷ s) c = value_snoc base (n * base + digit_of d) s c

all_snoc : (p : ℕ → Bool) (s : List ℕ) (c : ℕ) → all p s ≡ true → p c ≡ true → all p (s ++ (c ∷ [])) ≡ true
all_snoc p [] c h e = rw e refl
all_snoc p (d ∷ s) c h e = and_both (and_1 (p d) (all p s) h) (all_snoc p s c (and_2 (p d) (all p s) h) e)

-- what is said of a number as it is written: its value, that every byte is a digit, that there is one, and that it does not begin with 0 unless it is 0
record Spelt (base n : ℕ) (s : List ℕ) : Type 0 where
  value : value_from base 0 s ≡ n
  digits : all (is_digit base) s ≡ true
  some : 1 ≤ length s
  first : 0 < n → get_or s 0 0 ≡ 48 → ⊥
  zero_alone : n ≡ 0 → length s ≡ 1

module _ {base : ℕ} (b : Base base) where
  is_digit_lem : (d : ℕ) → d < base → is_digit base (digit_byte d) ≡ true
  is_digit_lem d h = rw (digit_of_byte d (omega (arith, b.most))) (lt-ltb d base h)

  not_zero : (d : ℕ) → 0 < d → digit_byte d ≡ 48 → ⊥
  not_zero d h e = ⊎_elim (λ (l : d < 10). omega (arith, byte_low d l)) (λ (l : 10 ≤ d). omega (arith, byte_high d l)) (below_or_not d 10)

  one_spelt : (n : ℕ) → n < base → Spelt base n (digit_byte n ∷ [])
  unfolding value_from
  one_spelt n h =
      record {
        value = ap (λ (x : ℕ). 0 * base + x) (digit_of_byte n (omega (arith, b.most))) ∙ omega arith;
        digits = and_both (is_digit_lem n h) refl;
        some = omega arith;
        first = not_zero n;
        zero_alone = λ _. refl;
      }

  more_spelt : (n : ℕ) (s : List ℕ) → base ≤ n → Spelt base (n / base) s → Spelt base n (s ++ (digit_byte (n % base) ∷ []))
  more_spelt n s h p =
      let m : n % base < base = mod-lt n (omega (arith, b.least)) in
      let k : 0 < n / base = divided in
      record {
        value = value_snoc base 0 s (digit_byte (n % base)) ∙ rw (p.value, digit_of_byte (n % base) (omega (arith, b.most))) (div-add-mod' n base);
        digits = all_snoc (is_digit base) s (digit_byte (n % base)) p.digits (is_digit_lem (n % base) m);
        some = omega (arith, length-append s (digit_byte (n % base) ∷ []));
        first = λ (_ : 0 < n) (e : get_or (s ++ (digit_byte (n % base) ∷ [])) 0 0 ≡ 48). p.first k (sym (get_or-append s (digit_byte (n % base) ∷ []) 0 0 p.some) ∙ e);
        zero_alone = λ (e : n ≡ 0). absurd (omega (arith, b.least));
      }
    where
      divided : 0 < n / base
      divided = ⊎_elim (λ (l : n / base < 1). absurd (omega (arith, div-add-mod' n base, mod-lt n {m = base} (omega (arith, b.least)), small l))) (λ (l : 1 ≤ n / base). l) (below_or_not (n / base) 1)
        where
          small : n / base < 1 → n / base * base ≡ 0
          small l = let z : n / base ≡ 0 = omega arith in rw z (omega arith)

  last_spelt : (most n : ℕ) → n < most → Spelt base n (lowest_digits base most n)
  last_spelt zero n h = absurd (omega arith)
  last_spelt (suc most) n h = by_size (below_or_not n base) (last_spelt most (n / base))
    where
      by_size : (n < base) ⊎ (base ≤ n) → (n / base < most → Spelt base (n / base) (lowest_digits base most (n / base))) → Spelt base n (lowest_digits base (suc most) n)
      by_size (inl l) k = rw (lt-ltb n base l) (one_spelt n l)
      by_size (inr l) k = rw (le-ltb n base l) (more_spelt n (lowest_digits base most (n / base)) l (k (omega (arith, div-lt_self {n = n} {k = base} (omega (arith, b.least)) (omega (arith, b.least))))))

  spelt : (n : ℕ) → Spelt base n (numeral base n)
  unfolding numeral
  spelt n = last_spelt (suc n) n (omega arith)

  -- WRITTEN AND READ: a number reads back as it was
  pub number_back : (most n : ℕ) → n ≤ most → number_of base most (numeral base n) ≡ Some n
  unfolding number_of
  number_back most n h =
      let p : Spelt base n (numeral base n) = spelt n in
      rw (no_pad p, p.digits, p.value, le-leb n most h) refl
    where
      no_pad : Spelt base n (numeral base n) → unpadded (numeral base n) ≡ true
      no_pad p = and_both (le-leb 1 _ p.some) (⊎_elim (λ (z : n < 1). rw (eq-eqb (length (numeral base n)) 1 (p.zero_alone (omega arith))) refl) (λ (z : 1 ≤ n). or_last (eqb (length (numeral base n)) 1) {u = not (eqb (get_or (numeral base n) 0 0) 48)} (rw (ne_eqb (get_or (numeral base n) 0 0) 48 (p.first z)) refl)) (below_or_not n 1))
        where
          or_last : (t : Bool) {u : Bool} → u ≡ true → or t u ≡ true
          or_last true e = refl
          or_last false e = e

  -- the same digits, however many were allowed
  enough : (m k n : ℕ) → n < m → n < k → lowest_digits base m n ≡ lowest_digits base k n
  enough zero k n h l = absurd (omega arith)
  enough (suc m) zero n h l = absurd (omega arith)
  enough (suc m) (suc k) n h l = by_size (below_or_not n base) (enough m k (n / base))
    where
      by_size : (n < base) ⊎ (base ≤ n) → (n / base < m → n / base < k → lowest_digits base m (n / base) ≡ lowest_digits base k (n / base)) → lowest_digits base (suc m) n ≡ lowest_digits base (suc k) n
      by_size (inl e) f = rw (lt-ltb n base e) refl
      by_size (inr e) f =
          let d : n / base < n = div-lt_self {n = n} {k = base} (omega (arith, b.least)) (omega (arith, b.least)) in
          rw (le-ltb n base e) (ap (λ (s : List ℕ). s ++ (digit_byte (n % base) ∷ [])) (f (omega arith) (omega arith)))

  -- one digit more
  pub numeral_snoc : (n d : ℕ) → 0 < n → d < base → numeral base (n * base + d) ≡ numeral base n ++ (digit_byte d ∷ [])
  unfolding numeral
  numeral_snoc n d h l =
      let g : n * 2 ≤ n * base = mul-le-mul_left n b.least in
      let k : 1 * base ≤ n * base = mul-le-mul_right base h in
      let q : (n * base + d) / base ≡ n = mul-add-div_right (omega (arith, b.least)) n d ∙ rw (div-eq_of_lt l) (omega arith) in
      let r : (n * base + d) % base ≡ d = mul-add-mod_self_right n base d ∙ mod-eq_of_lt l in
      rw (le-ltb (n * base + d) base (omega arith), q, r) (ap (λ (s : List ℕ). s ++ (digit_byte d ∷ [])) (enough (n * base + d) (suc n) n (omega arith) (omega arith)))

  numeral_on : (n : ℕ) (s : List ℕ) → 0 < n → all (is_digit base) s ≡ true → numeral base (value_from base n s) ≡ numeral base n ++ s
  unfolding value_from
  numeral_on n [] h e = sym (append-nil (numeral base n))
  numeral_on n (c ∷ s) h e =
      let d : digit_of c < base = ltb-true (digit_of c) base (and_1 _ _ e) in
      let g : n * 2 ≤ n * base = mul-le-mul_left n b.least in
      numeral_on (n * base + digit_of c) s (omega arith) (and_2 (is_digit base c) _ e)
      ∙ ap (λ (p : List ℕ). p ++ s) (numeral_snoc n (digit_of c) h d)
      ∙ append_assoc (numeral base n) (digit_byte (digit_of c) ∷ []) s
      ∙ ap (λ (x : ℕ). numeral base n ++ (x ∷ s)) (byte_of_digit c (omega (arith, b.most)))

  pub one_digit : (n : ℕ) → n < base → numeral base n ≡ digit_byte n ∷ []
  unfolding numeral
  one_digit n h = rw (lt-ltb n base h) refl

  -- READ AND WRITTEN: a field that says a number is that number as it is written
  first_digit : (c : ℕ) → digit_of c < base → numeral base (0 * base + digit_of c) ≡ c ∷ []
  first_digit c d =
      let z : 0 * base + digit_of c ≡ digit_of c = omega arith in
      ap (numeral base) z ∙ one_digit (digit_of c) d ∙ ap (λ (x : ℕ). x ∷ []) (byte_of_digit c (omega (arith, b.most)))

  not_padded : (c n : ℕ) → or (eqb (suc (suc n)) 1) (not (eqb c 48)) ≡ true → digit_of c < 16 → 0 < digit_of c
  not_padded c n t d = ⊎_elim (λ (z : digit_of c < 1). absurd (eqb-false c 48 (not-true (eqb c 48) later) (is_zero z))) (λ (z : 1 ≤ digit_of c). z) (below_or_not (digit_of c) 1)
    where
      later : not (eqb c 48) ≡ true
      later = let e : eqb (suc (suc n)) 1 ≡ false = ne_eqb (suc (suc n)) 1 (λ (x : suc (suc n) ≡ 1). omega arith) in rw e at t

      is_zero : digit_of c < 1 → c ≡ 48
      is_zero z = let y : digit_of c ≡ 0 = omega arith in sym (byte_of_digit c d) ∙ ap digit_byte y

  said : (c : ℕ) (s : List ℕ) → all (is_digit base) (c ∷ s) ≡ true → or (eqb (suc (length s)) 1) (not (eqb c 48)) ≡ true → numeral base (value_from base 0 (c ∷ s)) ≡ c ∷ s
  unfolding value_from
  said c [] e u = first_digit c (ltb-true (digit_of c) base (and_1 _ _ e))
  said c (d ∷ s) e u =
      let l : digit_of c < base = ltb-true (digit_of c) base (and_1 _ _ e) in
      numeral_on (0 * base + digit_of c) (d ∷ s) (omega (arith, not_padded c (length s) u (omega (arith, b.most)))) (and_2 (is_digit base c) _ e)
      ∙ ap (λ (p : List ℕ). p ++ (d ∷ s)) (first_digit c l)

  pub record Says (most : ℕ) (s : List ℕ) (n : ℕ) : Type 0 where
    pub written : s ≡ numeral base n
    pub small : n ≤ most

  says_by : (most : ℕ) (s : List ℕ) {n : ℕ} → unpadded s ≡ true → (t : Bool) → and (all (is_digit base) s) (leb (value_from base 0 s) most) ≡ t → pick t (Some (value_from base 0 s)) None ≡ Some n → Says most s n
  says_by most [] u t e q = absurd (cc)
  says_by most (c ∷ s) u false e q = absurd (cc)
  says_by most (c ∷ s) {n} u true e q =
      let v : value_from base 0 (c ∷ s) ≡ n = cc in
      let w : or (eqb (suc (length s)) 1) (not (eqb c 48)) ≡ true = and_2 (leb 1 (suc (length s))) _ u in
      record {
        written = sym (ap (numeral base) (sym v) ∙ said c s (and_1 _ _ e) w);
        small = omega (arith, leb-true (value_from base 0 (c ∷ s)) most (and_2 (all (is_digit base) (c ∷ s)) _ e));
      }

  pub number_says : (most : ℕ) (s : List ℕ) {n : ℕ} → number_of base most s ≡ Some n → Says most s n
  unfolding number_of
  number_says most s {n} q = by_pad (unpadded s) refl q
    where
      by_pad : (t : Bool) → unpadded s ≡ t → pick t (valued_from base most 0 s) None ≡ Some n → Says most s n
      by_pad true e p = says_by most s e (and (all (is_digit base) s) (leb (value_from base 0 s) most)) refl p
      by_pad false e p = absurd (cc)

-- A NUMBER AS IT IS WRITTEN has no tab and no newline in it
no_mark : (base most n mark : ℕ) → mark < 48 → is_in (lowest_digits base most n) mark ≡ false
no_mark base zero n mark h = refl
no_mark base (suc most) n mark h = by_size (ltb n base) (no_mark base most (n / base) mark h)
  where
    away : (d : ℕ) → eqb mark (digit_byte d) ≡ false
    away d = ne_eqb mark (digit_byte d) (λ (e : mark ≡ digit_byte d). omega (arith, digit_byte_large d))

    by_size : (t : Bool) → is_in (lowest_digits base most (n / base)) mark ≡ false → is_in (pick t (digit_byte n ∷ []) (lowest_digits base most (n / base) ++ (digit_byte (n % base) ∷ []))) mark ≡ false
    by_size true e = rw (away n) refl
    by_size false e = unmarked_append mark (lowest_digits base most (n / base)) (digit_byte (n % base) ∷ []) e (rw (away (n % base)) refl)

pub numeral_unmarked : (base n mark : ℕ) → mark < 48 → is_in (numeral base n) mark ≡ false
unfolding numeral
numeral_unmarked base n mark h = no_mark base (suc n) n mark h
