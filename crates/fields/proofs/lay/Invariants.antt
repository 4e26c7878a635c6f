-- `fields::lay` meets its contract: digit by digit, from the last one (Puts).
use Rattle.fields.proofs.Puts.{Laying}
use Rattle.fields.proofs.lay.Given as goal

abbrev pub invariant-loop-rest : goal.invariant-loop-rest
invariant-loop-rest l = Laying l.base l.n l.room l.rest l.at

abbrev pub decreases-loop-rest : goal.decreases-loop-rest
decreases-loop-rest l = l.at
