-- The raw check's answer as numbers: its case (0 good, 1 no quote, 2 no end, 3 too many hashes), and every number of the case.
use Rattle.std.specs.Prelude.{ℕ, Bool, true, false, Option, None, Some, Result, Ok, Err}
use Rattle.refusal.specs.declared.Numbers.{Numbers}
use Rattle.token.specs.declared.RawStrError.{RawStrError}
use Rattle.token.specs.declared.RawStrError.TheVariants.{InvalidStarter, NoTerminator, TooManyDelimiters}
use Rattle.strings.specs.declared.RawRefusal.{RawRefusal}
use Rattle.strings.specs.RawChecks.{raw_numbers}
use Rattle.exports.specs.declared.RawStrAnswer.{RawStrAnswer}

abbrev pub raw_of : Numbers → (check bad expected found : ℕ) (has : Bool) (offset : ℕ) → RawStrAnswer
raw_of n check bad expected found has offset = record {
  number = n.number;
  beside = n.beside;
  second = n.second;
  check = check;
  bad_char = bad;
  expected = expected;
  found = found;
  has_offset = has;
  offset = offset;
}

abbrev pub no_end_of : Numbers → (expected found : ℕ) → Option ℕ → RawStrAnswer
no_end_of n expected found (Some place) = raw_of n 2 0 expected found true place
no_end_of n expected found None = raw_of n 2 0 expected found false 0

abbrev pub error_of : Numbers → RawStrError → RawStrAnswer
error_of n (InvalidStarter c) = raw_of n 1 c 0 0 false 0
error_of n (NoTerminator expected found offset) = no_end_of n expected found offset
error_of n (TooManyDelimiters found) = raw_of n 3 0 0 found false 0

abbrev pub check_of : Numbers → Result (Unit {0}) RawStrError → RawStrAnswer
check_of n (Ok tt) = raw_of n 0 0 0 0 false 0
check_of n (Err error) = error_of n error

abbrev pub raw_from : Numbers → Result (Result (Unit {0}) RawStrError) RawRefusal → RawStrAnswer
raw_from n (Ok check) = check_of n check
raw_from n (Err refusal) = raw_of n 0 0 0 0 false 0

abbrev pub raw_out : Result (Result (Unit {0}) RawStrError) RawRefusal → RawStrAnswer
raw_out answer = raw_from (raw_numbers answer) answer
