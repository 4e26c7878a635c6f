-- `cursor::Cursor::eat_while` meets its contract. For each predicate that the closure's answers are, a run of characters of one kind (Loops).
use Rattle.std.proofs.Common.{length}
use Rattle.cursor.specs.Cursors.{rest}
use Rattle.cursor.proofs.Loops.{EatenBy}
use Rattle.cursor.proofs.Cursor.eat_while.Given as goal

abbrev pub invariant-loop-c : goal.invariant-loop-c
invariant-loop-c g l = EatenBy (goal.F-post g l.wanted) l.text l.initial.cur l.cur

abbrev pub decreases-loop-c : goal.decreases-loop-c
decreases-loop-c g l = length (rest l.text l.cur)
