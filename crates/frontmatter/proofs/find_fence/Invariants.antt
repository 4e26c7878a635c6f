-- `frontmatter::find_fence` meets its contract. `Fencing`: from here the search finds what it finds from the start; dashes that are too few hold no newline (Fences).
use Rattle.frontmatter.proofs.Fences.{Fencing}
use Rattle.cursor.specs.Cursors.{rest}
use lib.ListN.{length}
use Rattle.frontmatter.proofs.find_fence.Given as goal

abbrev pub invariant-loop-c : goal.invariant-loop-c
invariant-loop-c l = Fencing l.count l.text l.initial.cur l.cur

abbrev pub decreases-loop-c : goal.decreases-loop-c
decreases-loop-c l = length (rest l.text l.cur)
