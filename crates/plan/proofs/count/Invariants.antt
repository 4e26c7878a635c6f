-- `plan::count` meets its contract. `Counted`: the tokens so far, and those from the position on (Counting).
use lib.ListN.{length, drop}
use Rattle.text.specs.Chars.{chars}
use Rattle.plan.proofs.Counting.{Counted}
use Rattle.plan.proofs.count.Given as goal

abbrev pub invariant-loop-at : goal.invariant-loop-at
invariant-loop-at l = Counted l.source.lists l.source.text l.on l.n l.at l.here

abbrev pub decreases-loop-at : goal.decreases-loop-at
decreases-loop-at l = length (chars (drop l.at l.source.text))
