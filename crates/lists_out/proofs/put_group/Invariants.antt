-- `lists_out::put_group` meets its contract. `Grouping`: the bytes put, followed by those of the pairs left, are all of them (Groups).
use lib.ListN.{length}
use Rattle.lists_out.proofs.Groups.{Grouping}
use Rattle.lists_out.proofs.put_group.Given as goal

abbrev pub invariant-loop-rest : goal.invariant-loop-rest
invariant-loop-rest l = Grouping l.which l.list l.rest l.initial.out l.at l.out l.n

abbrev pub decreases-loop-rest : goal.decreases-loop-rest
decreases-loop-rest l = length l.rest
