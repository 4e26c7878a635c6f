-- `lists_out::group_bytes` meets its contract. `Counting`: the bytes counted, and those of the pairs left, are all of them (Groups).
use lib.ListN.{length}
use Rattle.lists_out.proofs.Groups.{Counting}
use Rattle.lists_out.proofs.group_bytes.Given as goal

abbrev pub invariant-loop-rest : goal.invariant-loop-rest
invariant-loop-rest l = Counting l.which l.list l.rest l.n

abbrev pub decreases-loop-rest : goal.decreases-loop-rest
decreases-loop-rest l = length l.rest
