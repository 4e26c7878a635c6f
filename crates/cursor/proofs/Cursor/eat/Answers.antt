use Rattle.cursor.proofs.Moves.{eating_none, eating_more, eating_done}
use Rattle.cursor.proofs.Cursor.eat.Goals as goal

pub loop-init : goal.loop-init
loop-init c = eating_none _ _ _

pub loop-preserved : goal.loop-preserved
loop-preserved c = search eating_more

pub returns : goal.returns
returns c = search eating_done
