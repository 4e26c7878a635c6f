-- The loop keeps this: what the pairs left say, after a pair that ends at `previous`, is what the whole list says (`Checked`).
use lib.ListN.{length}
use Rattle.ranges.proofs.Pairs.{Checked}
use Rattle.ranges.proofs.pairs_flaw.Given as goal

abbrev pub invariant-loop-rest : goal.invariant-loop-rest
invariant-loop-rest l = Checked l.list l.previous l.k l.rest

abbrev pub decreases-loop-rest : goal.decreases-loop-rest
decreases-loop-rest l = length l.rest
