-- What a scan of digits promises.
use Rattle.std.specs.Prelude.{ℕ, ◌≡◌, Bool, List}
use Rattle.basics.specs.Choice.{or}
use Rattle.classes.specs.Identifiers.{digit, underscore}
use Rattle.eaters.specs.Eat.{take_while, while}
use Rattle.token.specs.declared.Base.{Base}
use Rattle.token.specs.declared.Base.TheVariants.{Binary, Octal, Decimal, Hexadecimal}
use Rattle.token.specs.Numbers.{any, hex_digit}
use Rattle.cursor.specs.declared.Cursor.{Cursor}
use Rattle.cursor.specs.Cursors.{rest}
use Rattle.cursor.specs.Moved.{Moved}
use Rattle.cursor.specs.Ran.{left}
use Rattle.numerals.specs.declared.Digits.{Digits}

-- hexadecimal digits, or decimal ones: binary and octal take all of them
abbrev pub digit_of : Base → ℕ → Bool
digit_of Hexadecimal = hex_digit
digit_of Binary = digit
digit_of Octal = digit
digit_of Decimal = digit

-- and underscores: the book's `hexadecimals` and `decimals`
abbrev pub digits_of : Base → ℕ → Bool
digits_of base c = or (digit_of base c) (underscore c)

-- the characters of p were taken, and r says whether one of them is of q
pub record CountedDigits (p q : ℕ → Bool) (s : List ℕ) (from : Cursor) (r : Digits) : Type 0 where
  pub moved : Moved s from r.next (left (while p) (rest s from))
  pub noted : r.some ≡ any q (take_while p (rest s from))
