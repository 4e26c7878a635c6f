-- `frontmatter::find` meets its contract. `Finding`: from here the search finds what it finds from the start (Seeks).
use Rattle.frontmatter.proofs.Seeks.{Finding}
use Rattle.cursor.specs.Cursors.{rest}
use lib.ListN.{length}
use Rattle.frontmatter.proofs.find.Given as goal

abbrev pub invariant-loop-cur : goal.invariant-loop-cur
invariant-loop-cur l = Finding l.pattern l.text l.initial.cur l.cur

abbrev pub decreases-loop-cur : goal.decreases-loop-cur
decreases-loop-cur l = length (rest l.text l.cur)
