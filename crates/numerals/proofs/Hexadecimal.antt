-- A decimal digit is a hexadecimal one: a law for readers, which the check of `is_digit_of` does without.
use Prim.Native.Nat.{ℕ}
use mathlib.Core.Path.{◌≡◌}
use mathlib.Core.Bool.{Bool, true}
use Rattle.classes.specs.Identifiers.{digit}
use Rattle.token.specs.Numbers.{hex_digit}

pub hex_digit_lem : (c : ℕ) {t : Bool} → t ≡ digit c → t ≡ true → true ≡ hex_digit c
hex_digit_lem c e h = rw (← e, h)
