-- `shebang::line_end` meets its contract. `Lined`: the line ends from here where it ends from the start; one law for each way of a turn (Lines).
use lib.ListN.{length}
use Rattle.cursor.specs.Cursors.{rest}
use Rattle.shebang.proofs.Lines.{Lined}
use Rattle.shebang.proofs.line_end.Given as goal

abbrev pub invariant-loop-c : goal.invariant-loop-c
invariant-loop-c l = Lined l.text l.initial.cur l.cur

abbrev pub decreases-loop-c : goal.decreases-loop-c
decreases-loop-c l = length (rest l.text l.cur)
