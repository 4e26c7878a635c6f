-- `classes::all_continue` meets its contract. The answer from the loop's place on is the answer from the start on (Idents).
use Rattle.classes.proofs.Idents.{Onward}
use lib.ListN.{length}
use Prim.Native.Nat.{◌-◌}
use Rattle.classes.proofs.all_continue.Given as goal

abbrev pub invariant-loop-c : goal.invariant-loop-c
invariant-loop-c l = Onward l.continues l.text l.from l.at

abbrev pub decreases-loop-c : goal.decreases-loop-c
decreases-loop-c l = length l.text - l.at
