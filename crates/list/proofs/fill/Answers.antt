use Rattle.list.proofs.Fills.{filling_starts, filling_on, filling_ends}
use Rattle.list.proofs.fill.Goals as goal

pub loop-i-init : goal.loop-i-init
loop-i-init c = search filling_starts

pub loop-i-preserved : goal.loop-i-preserved
loop-i-preserved c = search filling_on

pub returns : goal.returns
returns c = search filling_ends
