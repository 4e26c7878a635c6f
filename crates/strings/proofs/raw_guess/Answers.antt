use Rattle.strings.proofs.Bounds.{count_fits, place_fits}
use Rattle.strings.proofs.Guesses.{guessing_over, guessing_other, guessing_fewer, guessing_more, guessing_less}
use Rattle.strings.proofs.raw_guess.Goals as goal

pub returns : goal.returns
returns c = search guessing_over

pub narrow-count-requires : goal.narrow-count-requires
narrow-count-requires c = search count_fits

pub narrow-requires : goal.narrow-requires
narrow-requires c = search place_fits

pub loop-c-smaller-then-best-count : goal.loop-c-smaller-then-best-count
loop-c-smaller-then-best-count c = search guessing_less

pub loop-c-preserved-then-best-count : goal.loop-c-preserved-then-best-count
loop-c-preserved-then-best-count c = search guessing_more

pub loop-c-smaller-else-best-count : goal.loop-c-smaller-else-best-count
loop-c-smaller-else-best-count c = search guessing_less

pub loop-c-preserved-else-best-count : goal.loop-c-preserved-else-best-count
loop-c-preserved-else-best-count c = search guessing_fewer

pub loop-c-preserved : goal.loop-c-preserved
loop-c-preserved c = search guessing_other
