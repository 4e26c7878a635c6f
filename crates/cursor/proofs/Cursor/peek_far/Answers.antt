-- `cursor::Cursor::peek_far` meets its contract. What the decoder finds there is a step of the cursor (Steps).
use Rattle.text.proofs.Places.{char_room}
use native.Mathlib.Omega.{arith}
use Rattle.cursor.proofs.Steps.{seen_char, seen_end, seen_ill}
use Rattle.cursor.proofs.Cursor.peek_far.Goals as goal

pub overflow_add-next : goal.overflow_add-next
overflow_add-next c = omega (arith, char_room c.args.text.now c.args.self.at c.decode.ensures c.in-Char.is)

pub returns-in-Char : goal.returns-in-Char
returns-in-Char c = search seen_char

pub returns-in-End : goal.returns-in-End
returns-in-End c = search seen_end

pub returns-in-Ill : goal.returns-in-Ill
returns-in-Ill c = search seen_ill
