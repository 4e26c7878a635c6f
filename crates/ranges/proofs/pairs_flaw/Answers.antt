use Rattle.std.proofs.Common.{arith, tests}
use Rattle.std.proofs.lemmas.Bool.{not_from_true, not_from_false}
use Rattle.ranges.proofs.Pairs.{opened, check_stop, check_on, check_half, check_end}
use Rattle.ranges.proofs.pairs_flaw.Goals as goal

pub returns-then-not-good_pair : goal.returns-then-not-good_pair
returns-then-not-good_pair c = check_stop (opened _ c.loop-rest.invariant c.in-len2-up.len_at_least) c.good_pair.ensures (not_from_false _ c.if-not-good_pair.true)

pub loop-rest-preserved : goal.loop-rest-preserved
loop-rest-preserved c = check_on (opened _ c.loop-rest.invariant c.in-len2-up.len_at_least) c.good_pair.ensures (not_from_true _ c.if-not-good_pair.false)

pub returns-then-is_empty : goal.returns-then-is_empty
returns-then-is_empty c = check_end c.loop-rest.invariant (grind (arith, tests))

pub returns : goal.returns
returns c = check_half c.loop-rest.invariant (grind (arith, tests))
