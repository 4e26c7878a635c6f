-- `lists_file::decimal` meets its contract: a number to 65,535 fits into 16 bits (Readings), so that the conversion gives it.
use Rattle.std.proofs.Common.{ℕ, ◌<◌, ◌≡◌, ap, ◌∙◌}
use native.Mathlib.Omega.{arith}
use Rattle.std.specs.Prelude.{Some, Result, Ok, Err}
use Rattle.std.specs.Result.{OkIff, result_ok}
use Rattle.lists_file.proofs.Readings.{sixteen}
use Rattle.lists_file.proofs.decimal.Goals as goal

given_back : {E : Type 0} {n : ℕ} (r : Result ℕ E) → OkIff r (n < 65536) n → n < 65536 → result_ok r ≡ Some n
given_back (Ok x) p h = ap Some p.1
given_back (Err e) p h = absurd (p h)

pub returns : goal.returns
returns c =
    let small : c.in_ok-number_of.field-0 < 65536 = omega (arith, sixteen c.args.field.now c.in_ok-number_of.ensures) in
    c.ok.ensures.value ∙ given_back c.try_from.result c.try_from.ensures small ∙ c.in_ok-number_of.ensures
