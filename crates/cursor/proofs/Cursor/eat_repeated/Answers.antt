use Rattle.cursor.proofs.Counts.{counting_none, counting_fits, counting_on, counting_off, counting_over}
use Rattle.cursor.proofs.Cursor.eat_repeated.Goals as goal

pub loop-c-init : goal.loop-c-init
loop-c-init c = counting_none _ _ _

pub returns-then-c-wanted : goal.returns-then-c-wanted
returns-then-c-wanted c = search counting_off

pub overflow_add-count : goal.overflow_add-count
overflow_add-count c = search counting_fits

pub loop-c-preserved : goal.loop-c-preserved
loop-c-preserved c = search counting_on

pub returns : goal.returns
returns c = search counting_over
