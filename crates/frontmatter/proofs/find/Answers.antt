use Rattle.frontmatter.proofs.Seeks.{found, finding_over, finding_on}
use Rattle.frontmatter.proofs.find.Goals as goal

pub returns-then-starts_with : goal.returns-then-starts_with
returns-then-starts_with c = search found

pub returns-in_err-next : goal.returns-in_err-next
returns-in_err-next c = rw c.from_residual.ensures (search (finding_over, c.in_err-next.was))

pub loop-cur-preserved : goal.loop-cur-preserved
loop-cur-preserved c = search (finding_on, c.in_ok-next.was)
