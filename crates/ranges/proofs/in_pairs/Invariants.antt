-- The loop keeps this: the pairs before `begin` lie below c, those from `end` on above it (`Between`). The measure is how often what
-- is left can be halved (`turns_left`), so that it also bounds the turns.
use Rattle.ranges.proofs.Search.{Between}
use Rattle.ranges.proofs.Turns.{turns_left}
use Rattle.ranges.proofs.in_pairs.Given as goal

abbrev pub invariant-loop-begin : goal.invariant-loop-begin
invariant-loop-begin l = Between l.c l.list l.begin l.end

abbrev pub decreases-loop-begin : goal.decreases-loop-begin
decreases-loop-begin l = turns_left l.begin l.end
