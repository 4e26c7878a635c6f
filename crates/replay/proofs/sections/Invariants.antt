-- Each turn goes on in the file.
use Rattle.std.proofs.Common.{length, ◌-◌}
use Rattle.replay.specs.Counted.{Tallied}
use Rattle.replay.proofs.sections.Given as goal

abbrev pub invariant-loop-t : goal.invariant-loop-t
invariant-loop-t g l = Tallied (length l.s) l.t

abbrev pub decreases-loop-t : goal.decreases-loop-t
decreases-loop-t g l = length l.s - l.t.at
