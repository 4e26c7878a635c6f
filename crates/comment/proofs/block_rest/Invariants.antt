-- `comment::block_rest` meets its contract. A search for an end; one law for each way of a turn (Blocks).
use Rattle.comment.proofs.Blocks.{Deep}
use Rattle.cursor.specs.Cursors.{rest}
use lib.ListN.{length}
use Rattle.comment.proofs.block_rest.Given as goal

abbrev pub invariant-loop-c : goal.invariant-loop-c
invariant-loop-c l = Deep l.text l.initial.cur l.cur l.depth

abbrev pub decreases-loop-c : goal.decreases-loop-c
decreases-loop-c l = length (rest l.text l.cur)
