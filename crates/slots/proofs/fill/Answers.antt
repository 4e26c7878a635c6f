use Rattle.slots.proofs.Fillings.{slotting_none, slotted_all, slotted_less, slotted_fits, slotted_on}
use Rattle.slots.proofs.fill.Goals as goal

pub loop-scan-init : goal.loop-scan-init
loop-scan-init c = slotting_none c.start-scan.ensures.scan c.start-scan.ensures.lined

pub put_token-used-requires : goal.put_token-used-requires
put_token-used-requires c = slotted_fits c.loop-scan.invariant c.text-text.ensures.checked (rw c.text-text.ensures.bytes at c.loop-scan-test.true) c.step-scan.ensures.token c.requires

pub loop-scan-smaller : goal.loop-scan-smaller
loop-scan-smaller c = slotted_less c.loop-scan.invariant c.text-text.ensures.checked (rw c.text-text.ensures.bytes at c.loop-scan-test.true) c.step-scan.ensures.token

pub loop-scan-preserved : goal.loop-scan-preserved
loop-scan-preserved c = slotted_on c.loop-scan.invariant c.text-text.ensures.checked (rw c.text-text.ensures.bytes at c.loop-scan-test.true) c.step-scan.ensures.token c.step-scan.ensures.lined c.put_token-used.ensures

pub returns : goal.returns
returns c = slotted_all c.loop-scan.invariant (rw c.text-text.ensures.bytes at c.loop-scan-test.false)
