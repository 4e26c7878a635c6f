use Rattle.quoted.proofs.Pounds.{most_start, most_more, most_other, most_over, most_done}
use Rattle.quoted.proofs.eat_hashes_most.Goals as goal

pub loop-count-init : goal.loop-count-init
loop-count-init c = most_start _ _ _

pub loop-count-preserved : goal.loop-count-preserved
loop-count-preserved c = search most_more

pub returns-in_default : goal.returns-in_default
returns-in_default c = search most_other

pub returns-in_default-2 : goal.returns-in_default-2
returns-in_default-2 c = search most_over

pub returns : goal.returns
returns c = search most_done
