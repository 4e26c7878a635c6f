-- Document 01, "When the build says no": the number of each refusal, and the numbers beside it. Document 02, W2: the cause beside 2.
use Rattle.std.specs.Prelude.{ℕ, Ok, Err}
use Rattle.refusal.specs.declared.Cause.{Cause}
use Rattle.refusal.specs.declared.Cause.TheVariants.{Start, Cut, Follow}
use Rattle.refusal.specs.declared.Bad.{Bad}
use Rattle.refusal.specs.declared.Bad.TheVariants.{TooLong, List, NotUtf8}
use Rattle.refusal.specs.Verdict.{Verdict}
use Rattle.refusal.specs.declared.PlaceRefusal.{PlaceRefusal}
use Rattle.refusal.specs.declared.PlaceRefusal.TheVariants.{Position, Shared}
use Rattle.refusal.specs.declared.Numbers.{Numbers}

-- a number of the table with the numbers beside it, 0 where the table names none
abbrev pub numbers : ℕ → ℕ → ℕ → Numbers
numbers n a b = record { number = n; beside = a; second = b }

-- W2: why the bytes are bad
abbrev pub cause_number : Cause → ℕ
cause_number Start = 1
cause_number Cut = 2
cause_number Follow = 3

abbrev pub bad_numbers : Bad → Numbers
bad_numbers TooLong = numbers 1 0 0
bad_numbers (List list pair) = numbers 3 list pair
bad_numbers (NotUtf8 place cause) = numbers 2 place (cause_number cause)

abbrev pub verdict_numbers : Verdict → Numbers
verdict_numbers (Ok tt) = numbers 0 0 0
verdict_numbers (Err bad) = bad_numbers bad

-- 4: the position is past the end or inside a character
abbrev pub place_numbers : PlaceRefusal → Numbers
place_numbers (Position at) = numbers 4 at 0
place_numbers (Shared bad) = bad_numbers bad
