-- `cursor::Cursor::second` meets its contract. The first character past one move (Moves).
use Rattle.cursor.proofs.Moves.{second_is}
use Rattle.cursor.proofs.Cursor.second.Goals as goal

pub returns : goal.returns
returns c = search second_is
