-- `token_line::put_lined` meets its contract. How it begins, and three puts past that (Puts).
use Rattle.token_line.proofs.Puts.{ten_digits, lined_put}
use native.Mathlib.Omega.{arith}
use Rattle.token_line.proofs.put_lined.Goals as goal

pub put_decimal-end-requires : goal.put_decimal-end-requires
put_decimal-end-requires c = omega (arith, ten_digits c.args.feeds (omega arith))

pub put_byte-requires : goal.put_byte-requires
put_byte-requires c = omega (arith, ten_digits c.args.feeds (omega arith))

pub returns : goal.returns
returns c = search lined_put
