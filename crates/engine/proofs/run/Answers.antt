use Rattle.engine.proofs.Loops.{upto_none, next_fits, at_fits, fewer, on_cr, on_char, on_fed, upto_end, upto_ill}
use Rattle.engine.proofs.run.Goals as goal

pub loop-c-init : goal.loop-c-init
loop-c-init c = search upto_none

pub overflow_add-next : goal.overflow_add-next
overflow_add-next c = search next_fits

pub loop-c-smaller-then-is_cr_lf : goal.loop-c-smaller-then-is_cr_lf
loop-c-smaller-then-is_cr_lf c = search fewer

pub loop-c-preserved-then-is_cr_lf : goal.loop-c-preserved-then-is_cr_lf
loop-c-preserved-then-is_cr_lf c = search on_cr

pub feed_char-kept-requires : goal.feed_char-kept-requires
feed_char-kept-requires c = search on_char

pub overflow_add-at : goal.overflow_add-at
overflow_add-at c = search at_fits

pub loop-c-smaller : goal.loop-c-smaller
loop-c-smaller c = search fewer

pub loop-c-preserved : goal.loop-c-preserved
loop-c-preserved c = search on_fed

pub returns-in-End : goal.returns-in-End
returns-in-End c = search upto_end

pub returns-in-Ill : goal.returns-in-Ill
returns-in-Ill c = search upto_ill
