use Rattle.quoted.proofs.Closes.{seek_start, seek_over, seek_other, seek_short, seek_found, seek_fewer}
use Rattle.quoted.proofs.raw_rest.Goals as goal

pub loop-c-init : goal.loop-c-init
loop-c-init c = seek_start _ _ _

pub returns : goal.returns
returns c = search seek_over

pub returns-then-hashes-count : goal.returns-then-hashes-count
returns-then-hashes-count c = search seek_found

pub loop-c-smaller-else-hashes-count : goal.loop-c-smaller-else-hashes-count
loop-c-smaller-else-hashes-count c = search seek_fewer

pub loop-c-preserved-else-hashes-count : goal.loop-c-preserved-else-hashes-count
loop-c-preserved-else-hashes-count c = search seek_short

pub loop-c-preserved : goal.loop-c-preserved
loop-c-preserved c = search seek_other
