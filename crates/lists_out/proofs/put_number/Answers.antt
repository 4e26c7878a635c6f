-- `lists_out::put_number` meets its contract. Two puts, one right past the other (Lines), of the number that the conversion gives, which is the same.
use Rattle.lists_out.proofs.Lines.{number_put}
use Rattle.lists_out.proofs.put_number.Goals as goal

pub returns : goal.returns
returns c = rw (← c.from.ensures) (number_put c.from.result c.put_byte-digits.ensures c.put_decimal.ensures)
