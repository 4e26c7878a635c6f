-- `line_feeds::count` meets its contract. `Counted`: those so far, and those from the place on (Counting).
use Rattle.line_feeds.proofs.Counting.{Counted}
use Rattle.line_feeds.proofs.count.Given as goal

abbrev pub invariant-loop-b : goal.invariant-loop-b
invariant-loop-b l = Counted l.bytes l.n l.b-index
