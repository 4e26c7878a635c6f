-- `token_line::put_front` meets its contract. Three puts, each right past the one before (Puts).
use Rattle.token_line.proofs.Puts.{ten_digits, front_put}
use native.Mathlib.Omega.{arith}
use Rattle.token_line.proofs.put_front.Goals as goal

pub put_decimal-requires : goal.put_decimal-requires
put_decimal-requires c = omega (arith, ten_digits c.args.len (omega arith))

pub returns : goal.returns
returns c = search front_put
