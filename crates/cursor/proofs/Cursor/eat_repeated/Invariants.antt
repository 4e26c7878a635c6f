-- `cursor::Cursor::eat_repeated` meets its contract. `Counting`: the characters so far, and their number (Counts).
use Rattle.cursor.proofs.Counts.{Counting}
use Rattle.cursor.specs.Cursors.{rest}
use lib.ListN.{length}
use Rattle.cursor.proofs.Cursor.eat_repeated.Given as goal

abbrev pub invariant-loop-c : goal.invariant-loop-c
invariant-loop-c l = Counting l.wanted l.text l.initial.cur l.cur l.count

abbrev pub decreases-loop-c : goal.decreases-loop-c
decreases-loop-c l = length (rest l.text l.cur)
