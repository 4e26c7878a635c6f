-- `cursor::Cursor::bump` meets its contract. By the peek (Moves).
use Rattle.cursor.proofs.Moves.{bump_there, bump_gone}
use Rattle.cursor.proofs.Cursor.bump.Goals as goal

pub returns : goal.returns
returns c = search bump_there

pub returns-in_default : goal.returns-in_default
returns-in_default c = search bump_gone
