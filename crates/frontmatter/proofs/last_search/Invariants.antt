-- `frontmatter::last_search` meets its contract. `Lasting`: from here the search finds what it finds from the start (Recoveries).
use Rattle.frontmatter.proofs.Recoveries.{Lasting}
use Rattle.cursor.specs.Cursors.{rest}
use lib.ListN.{length}
use Rattle.frontmatter.proofs.last_search.Given as goal

abbrev pub invariant-loop-cur : goal.invariant-loop-cur
invariant-loop-cur l = Lasting l.text l.initial.cur l.cur l.blank

abbrev pub decreases-loop-cur : goal.decreases-loop-cur
decreases-loop-cur l = length (rest l.text l.cur)
