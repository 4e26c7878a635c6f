use Rattle.std.proofs.Common.{rules}
use Rattle.printing.proofs.Parts.{part_written, parts_written}
use Rattle.printing.proofs.say_lines.Goals as goal

pub returns-then-chunk-at : goal.returns-then-chunk-at
returns-then-chunk-at g c = search parts_written

pub loop-at-preserved : goal.loop-at-preserved
loop-at-preserved g c = (search rules, part_written c.fill-chunk.ensures _ _ _ _ c.loop-at.invariant.1 c.in_ok-write_all.ensures.bytes)
