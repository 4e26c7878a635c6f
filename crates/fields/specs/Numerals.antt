-- A number as it is written: its digits in a base, in lower case, and no zero in front (document 02, W1). And the number that a field says, which is the
-- other way round.
use Rattle.std.specs.Prelude.{ℕ, Option, None, Some, zero, suc, ◌+◌, ◌-◌, ◌*◌, ◌/◌, ◌%◌, ◌≤◌, Bool, not, List, [], ◌∷◌, ◌++◌, ltb, leb, eqb, length, get_or}
use Rattle.basics.specs.Choice.{pick, and, or}
use Rattle.basics.specs.Tests.{within, all}

-- the byte of a digit below 16: `0` to `9`, then `a` to `f`
abbrev pub digit_byte : ℕ → ℕ
digit_byte d = pick (ltb d 10) (48 + d) (87 + d)

-- the last digits of n, at most as many as `most`, and none in front of the first that is not 0
abbrev pub lowest_digits : (base most : ℕ) → ℕ → List ℕ
lowest_digits base zero n = []
lowest_digits base (suc most) n = pick (ltb n base) (digit_byte n ∷ []) (lowest_digits base most (n / base) ++ (digit_byte (n % base) ∷ []))

-- n in a base: it has no more digits than n + 1
unfoldable pub numeral : (base : ℕ) → ℕ → List ℕ
numeral base n = lowest_digits base (suc n) n

-- the digit that a byte is; 16, which is no digit of a base to 16, where it is none
abbrev pub digit_of : ℕ → ℕ
digit_of c = pick (within 48 57 c) (c - 48) (pick (within 97 102 c) (c - 87) 16)

-- the byte is a digit of the base
abbrev pub is_digit : (base : ℕ) → ℕ → Bool
is_digit base c = ltb (digit_of c) base

-- the digit of the base that the byte is; none where it is none
abbrev pub digit_in : (base : ℕ) → ℕ → Option ℕ
digit_in base c = pick (is_digit base c) (Some (digit_of c)) None

-- the number that digits say after those that say n
unfoldable pub value_from : (base n : ℕ) → List ℕ → ℕ
value_from base n [] = n
value_from base n (c ∷ s) = value_from base (n * base + digit_of c) s

-- one digit or more, and no leading zero: a zero stands alone
abbrev pub unpadded : List ℕ → Bool
unpadded s = and (leb 1 (length s)) (or (eqb (length s) 1) (not (eqb (get_or s 0 0) 48)))

-- digits that say a number of at most `most`, after those that say n
abbrev pub valued_from : (base most n : ℕ) → List ℕ → Option ℕ
valued_from base most n s = pick (and (all (is_digit base) s) (leb (value_from base n s) most)) (Some (value_from base n s)) None

-- THE NUMBER that a field says, of at most `most`
unfoldable pub number_of : (base most : ℕ) → List ℕ → Option ℕ
number_of base most s = pick (unpadded s) (valued_from base most 0 s) None

-- the bases that bytes have digits for
pub record Base (base : ℕ) : Type 0 where
  pub least : 2 ≤ base
  pub most : base ≤ 16
