-- Document 02, W1: hexadecimal has at most six digits. Without leading zeros these are the numbers to 0xFFFFFF.
use Prim.Native.Nat.{ℕ, ◌≤◌, ◌<◌}
use lib.ListN.{length}
use native.Mathlib.Omega.{arith}
use Rattle.fields.specs.Numerals.{numeral}
use Rattle.fields.proofs.Puts.{sixteen, few_digits, more_digits}

pub six_digits : (n : ℕ) → n ≤ 0xFFFFFF → length (numeral 16 n) ≤ 6
six_digits n h = few_digits sixteen 5 n (omega arith)

pub seven_digits : (n : ℕ) → 0xFFFFFF < n → 7 ≤ length (numeral 16 n)
seven_digits n h = more_digits sixteen 6 n (omega arith)
