-- What putting a number asks: room for its digits.
use Rattle.std.specs.Prelude.{ℕ, ◌+◌, ◌≤◌, List, length}
use Rattle.fields.specs.Numerals.{numeral}

abbrev pub Fits : (base : ℕ) (out : List ℕ) (at n : ℕ) → Type 0
Fits base out at n = at + length (numeral base n) ≤ length out
