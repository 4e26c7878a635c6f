use Rattle.cursor.proofs.Loops.{eaten_by_none, eaten_by_on, eaten_by_off, eaten_by_over}
use Rattle.cursor.proofs.Cursor.eat_while.Goals as goal

pub loop-c-init : goal.loop-c-init
loop-c-init g c = search eaten_by_none

pub loop-c-preserved : goal.loop-c-preserved
loop-c-preserved g c = search eaten_by_on

pub returns : goal.returns
returns g c = search eaten_by_over

pub returns-then-not-wanted : goal.returns-then-not-wanted
returns-then-not-wanted g c = search eaten_by_off
