-- `quoted::double_quoted_string` meets its contract. `Inside`: the turns so far say what the turns from the start say (Quotes).
use Rattle.cursor.proofs.Loops.{Inside}
use Rattle.token.specs.Quotes.{double_turn}
use Rattle.cursor.specs.Cursors.{rest}
use lib.ListN.{length}
use Rattle.quoted.proofs.double_quoted_string.Given as goal

abbrev pub invariant-loop-c : goal.invariant-loop-c
invariant-loop-c l = Inside double_turn l.text l.initial.cur l.cur 1

abbrev pub decreases-loop-c : goal.decreases-loop-c
decreases-loop-c l = length (rest l.text l.cur)
