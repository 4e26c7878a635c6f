-- `cursor::Cursor::peek` meets its contract. A byte of ASCII is a step of the cursor (Steps); else the decoder says.
use Rattle.cursor.proofs.Steps.{seen_ascii}
use Rattle.cursor.proofs.Cursor.peek.Goals as goal

pub returns-then-b-lt128 : goal.returns-then-b-lt128
returns-then-b-lt128 c = search seen_ascii
