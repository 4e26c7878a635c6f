use Rattle.lines.proofs.Filling.{fewer, turned, full_out, end_out}
use Rattle.lines.proofs.fill.Goals as goal

pub loop-out-smaller : goal.loop-out-smaller
loop-out-smaller c = search fewer

pub loop-out-preserved : goal.loop-out-preserved
loop-out-preserved c = search turned

pub returns-after-loop-out : goal.returns-after-loop-out
returns-after-loop-out c = search full_out

pub returns-then-token-eq0 : goal.returns-then-token-eq0
returns-then-token-eq0 c = search (end_out c.loop-out.invariant)
