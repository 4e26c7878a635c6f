-- `shebang::bracket_follows` meets its contract. `Sought`: the answer from here is the answer from the start; the kind of a token decides a turn (Follows).
use lib.ListN.{length}
use Rattle.cursor.specs.Cursors.{rest}
use Rattle.shebang.proofs.Follows.{Sought}
use Rattle.shebang.proofs.bracket_follows.Given as goal

abbrev pub invariant-loop-c : goal.invariant-loop-c
invariant-loop-c l = Sought l.text l.initial.cur l.cur

abbrev pub decreases-loop-c : goal.decreases-loop-c
decreases-loop-c l = length (rest l.text l.cur)
