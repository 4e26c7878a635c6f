-- Each turn has counted one vector more.
use Rattle.std.proofs.Common.{length}
use Rattle.replay.specs.Counted.{Steps}
use Rattle.replay.proofs.steps.Given as goal

abbrev pub invariant-loop : goal.invariant-loop
invariant-loop g l = Steps (length l.s) l.counter l.fn.from l.t
