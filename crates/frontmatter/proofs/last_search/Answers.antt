use Rattle.frontmatter.proofs.Recoveries.{lasting_found, lasting_again, lasting_less, lasting_over, lasting_on}
use Rattle.frontmatter.proofs.last_search.Goals as goal

pub returns-then-blank : goal.returns-then-blank
returns-then-blank c = search lasting_found

pub loop-cur-smaller-then-at_dashes : goal.loop-cur-smaller-then-at_dashes
loop-cur-smaller-then-at_dashes c = search lasting_less

pub loop-cur-preserved-then-at_dashes : goal.loop-cur-preserved-then-at_dashes
loop-cur-preserved-then-at_dashes c = search lasting_again

pub returns-in_err-c : goal.returns-in_err-c
returns-in_err-c c = rw c.from_residual.ensures (search (lasting_over, c.in_err-c.was))

pub loop-cur-preserved : goal.loop-cur-preserved
loop-cur-preserved c = search (lasting_on, c.in_ok-c.was)
