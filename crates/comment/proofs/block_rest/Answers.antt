use Rattle.comment.proofs.Blocks.{deep_start, deeper_fits, none_in, slash_in, star_in, open_in, close_in, last_in, end_in}
use Rattle.cursor.proofs.Moves.{fewer_2}
use Rattle.comment.proofs.block_rest.Goals as goal

pub loop-c-init : goal.loop-c-init
loop-c-init c = deep_start _ _

pub returns : goal.returns
returns c = search end_in

pub overflow_add-depth : goal.overflow_add-depth
overflow_add-depth c = search deeper_fits

pub loop-c-smaller-then-first-eq42 : goal.loop-c-smaller-then-first-eq42
loop-c-smaller-then-first-eq42 c = search fewer_2

pub loop-c-preserved-then-first-eq42 : goal.loop-c-preserved-then-first-eq42
loop-c-preserved-then-first-eq42 c = search open_in

pub loop-c-preserved-else-first-eq42 : goal.loop-c-preserved-else-first-eq42
loop-c-preserved-else-first-eq42 c = search slash_in

pub returns-then-depth-eq1 : goal.returns-then-depth-eq1
returns-then-depth-eq1 c = search last_in

pub loop-c-smaller-then-first-eq47 : goal.loop-c-smaller-then-first-eq47
loop-c-smaller-then-first-eq47 c = search fewer_2

pub loop-c-preserved-then-first-eq47 : goal.loop-c-preserved-then-first-eq47
loop-c-preserved-then-first-eq47 c = search close_in

pub loop-c-preserved-else-first-eq47 : goal.loop-c-preserved-else-first-eq47
loop-c-preserved-else-first-eq47 c = search star_in

pub loop-c-preserved : goal.loop-c-preserved
loop-c-preserved c = search none_in
