use Rattle.shebang.proofs.Lines.{line_over, line_stop, line_on, line_both, line_return}
use Rattle.shebang.proofs.line_end.Goals as goal
use Rattle.shebang.proofs.line_end.Goals.{else-c-eq13-via-then-c-eq13+else-first-eq10, else-c-eq13-via-else-c-eq13}

pub returns-then-c-eq10 : goal.returns-then-c-eq10
returns-then-c-eq10 c = search line_stop

pub returns : goal.returns
returns c = search line_over

pub returns-then-first-eq10 : goal.returns-then-first-eq10
returns-then-first-eq10 c = search line_both

pub loop-c-preserved : goal.loop-c-preserved
loop-c-preserved c = elim c.else-c-eq13.branch [ else-c-eq13-via-then-c-eq13+else-first-eq10 w ↦ search line_return | else-c-eq13-via-else-c-eq13 w ↦ search line_on ]
