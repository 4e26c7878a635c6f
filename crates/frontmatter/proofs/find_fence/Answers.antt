use Rattle.frontmatter.proofs.Fences.{fencing_over, fencing_other, fencing_found, fencing_few, fencing_less}
use Rattle.frontmatter.proofs.find_fence.Goals as goal

pub returns-in_err-c : goal.returns-in_err-c
returns-in_err-c c = rw c.from_residual.ensures (search (fencing_over, c.in_err-c.was))

pub returns-then-count-fence : goal.returns-then-count-fence
returns-then-count-fence c = search (fencing_found, c.in_ok-c.was)

pub loop-c-smaller-then-c-eq10 : goal.loop-c-smaller-then-c-eq10
loop-c-smaller-then-c-eq10 c = search (fencing_less, c.in_ok-c.was)

pub loop-c-preserved-then-c-eq10 : goal.loop-c-preserved-then-c-eq10
loop-c-preserved-then-c-eq10 c = search (fencing_few, c.in_ok-c.was)

pub loop-c-preserved : goal.loop-c-preserved
loop-c-preserved c = search (fencing_other, c.in_ok-c.was)
