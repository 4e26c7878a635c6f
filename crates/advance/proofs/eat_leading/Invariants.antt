-- `advance::eat_leading` meets its contract. `Leading`: the whitespace so far, and its last character (Fronts).
use lib.ListN.{length}
use Rattle.cursor.specs.Cursors.{rest}
use Rattle.advance.proofs.Fronts.{Leading}
use Rattle.advance.proofs.eat_leading.Given as goal

abbrev pub invariant-loop-d : goal.invariant-loop-d
invariant-loop-d l = Leading l.initial.last l.text l.initial.cur l.cur l.last

abbrev pub decreases-loop-d : goal.decreases-loop-d
decreases-loop-d l = length (rest l.text l.cur)
