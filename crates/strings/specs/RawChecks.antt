-- What validate_raw_str answers: 1, then 2, then 8; else what the raw check says.
use Rattle.std.specs.Prelude.{ℕ, List, [], ◌∷◌, Bool, drop, eqb, Result, Ok, Err}
use Rattle.basics.specs.Choice.{pick, and, or}
use Rattle.refusal.specs.declared.Numbers.{Numbers}
use Rattle.refusal.specs.Numbers.{numbers, bad_numbers}
use Rattle.refusal.specs.Order.{refused_or}
use Rattle.eaters.specs.Look.{begins}
use Rattle.text.specs.Chars.{chars}
use Rattle.text.specs.Verdicts.{text_verdict}
use Rattle.token.specs.declared.RawStrError.{RawStrError}
use Rattle.token.specs.declared.RawStrError.TheVariants.{InvalidStarter, NoTerminator, TooManyDelimiters}
use Rattle.token.specs.Names.{'b', 'c', 'r'}
use Rattle.token.specs.RawCheck.{raw_check}
use Rattle.strings.specs.declared.RawRefusal.{RawRefusal}
use Rattle.strings.specs.declared.RawRefusal.TheVariants.{Prefix, Shared}

-- 8 is given otherwise: the prefix is 1 with r, or 2 with br or cr
unfoldable pub is_prefix : (s : List ℕ) (prefix : ℕ) → Bool
is_prefix s prefix =
    or (and (eqb prefix 1) (begins ('r' ∷ []) s))
    (and (eqb prefix 2) (or (begins ('b' ∷ 'r' ∷ []) s) (begins ('c' ∷ 'r' ∷ []) s)))

abbrev pub raw_answer : (s : List ℕ) (prefix : ℕ) → Result (Result (Unit {0}) RawStrError) RawRefusal
raw_answer s prefix =
    refused_or (λ bad. Err (Shared bad)) (text_verdict s) (pick (is_prefix s prefix) (Ok (raw_check prefix (chars (drop prefix s)))) (Err Prefix))

-- by number: done is 0, with the case of the check (0 good, 1 no quote, 2 no end, 3 too many hashes) and its first number
abbrev pub error_numbers : RawStrError → Numbers
error_numbers (InvalidStarter c) = numbers 0 1 c
error_numbers (NoTerminator expected found offset) = numbers 0 2 expected
error_numbers (TooManyDelimiters found) = numbers 0 3 found

abbrev pub check_numbers : Result (Unit {0}) RawStrError → Numbers
check_numbers (Ok tt) = numbers 0 0 0
check_numbers (Err error) = error_numbers error

abbrev pub raw_numbers : Result (Result (Unit {0}) RawStrError) RawRefusal → Numbers
raw_numbers (Ok check) = check_numbers check
raw_numbers (Err Prefix) = numbers 8 0 0
raw_numbers (Err (Shared bad)) = bad_numbers bad
