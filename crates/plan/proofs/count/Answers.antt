use Rattle.plan.proofs.Counting.{counted_none, counted_on, counted_less, counted_all, count_fits}
use Rattle.plan.proofs.count.Goals as goal

pub loop-at-init : goal.loop-at-init
loop-at-init c = search counted_none

pub overflow_add-n : goal.overflow_add-n
overflow_add-n c = search count_fits

pub loop-at-smaller : goal.loop-at-smaller
loop-at-smaller c = counted_less c.loop-at.invariant c.text-text.ensures.checked (rw c.text-text.ensures.bytes at c.loop-at-test.true) c.bare_token-token.ensures

pub loop-at-preserved : goal.loop-at-preserved
loop-at-preserved c = counted_on c.loop-at.invariant c.text-text.ensures.checked (rw c.text-text.ensures.bytes at c.loop-at-test.true) c.bare_token-token.ensures

pub returns : goal.returns
returns c = counted_all c.loop-at.invariant (rw c.text-text.ensures.bytes at c.loop-at-test.false)
