-- `engine::run` meets its contract. The characters before the place reached are fed (Loops).
use Prim.Native.Nat.{◌-◌}
use lib.ListN.{length}
use Rattle.engine.proofs.Loops.{Upto}
use Rattle.engine.proofs.run.Given as goal

abbrev pub invariant-loop-c : goal.invariant-loop-c
invariant-loop-c l = Upto l.writing l.lists l.fn.start l.text l.initial.out l.i l.mode l.from l.at l.out l.n

abbrev pub decreases-loop-c : goal.decreases-loop-c
decreases-loop-c l = length l.text - l.i
