-- A part that does not stand still leaves fewer characters. What was written, and then the lines from the position on, are the lines of the text.
use Rattle.std.proofs.Common.{length, drop, ◌≡◌}
use Rattle.text.specs.Chars.{chars}
use Rattle.lines.specs.Lines.{lines_from}
use Rattle.printing.specs.Written.{Written}
use Rattle.printing.proofs.say_lines.Given as goal

abbrev pub invariant-loop-at : goal.invariant-loop-at
invariant-loop-at g l = (16384 ≡ length l.out)
    × Written (g.W.Write.contents l.fn.to) (g.W.Write.contents l.to) (lines_from l.source.lists l.source.text l.at) (lines_from l.source.lists l.source.text 0)

abbrev pub decreases-loop-at : goal.decreases-loop-at
decreases-loop-at g l = length (chars (drop l.at l.source.text))
