-- `fields::put_decimal` meets its contract: a number of 32 bits has at most ten digits (Puts).
use native.Mathlib.Omega.{arith}
use Rattle.fields.proofs.Puts.{ten, few_digits}
use Rattle.fields.proofs.put_decimal.Goals as goal

pub put_numeral-requires-clause-few : goal.put_numeral-requires-clause-few
put_numeral-requires-clause-few c = omega (arith, few_digits ten 9 c.args.n (omega arith))
