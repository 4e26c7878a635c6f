use Rattle.cursor.proofs.Moves.{fewer_1}
use Rattle.advance.proofs.Fronts.{leading_none, leading_on, led_off, led_over}
use Rattle.advance.proofs.eat_leading.Goals as goal

pub loop-d-init : goal.loop-d-init
loop-d-init c = leading_none _ _ _

pub loop-d-smaller : goal.loop-d-smaller
loop-d-smaller c = search fewer_1

pub loop-d-preserved : goal.loop-d-preserved
loop-d-preserved c = search leading_on

pub returns-then-not-is_whitespace : goal.returns-then-not-is_whitespace
returns-then-not-is_whitespace c = search led_off

pub returns-in_default : goal.returns-in_default
returns-in_default c = search led_over
