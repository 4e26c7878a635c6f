-- `fields::put_hex` meets its contract: a number of 32 bits has at most eight digits in hexadecimal (Puts).
use native.Mathlib.Omega.{arith}
use Rattle.fields.proofs.Puts.{sixteen, few_digits}
use Rattle.fields.proofs.put_hex.Goals as goal

pub put_numeral-requires-clause-few : goal.put_numeral-requires-clause-few
put_numeral-requires-clause-few c = omega (arith, few_digits sixteen 7 c.args.n (omega arith))
