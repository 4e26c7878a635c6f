-- `Saying`: what is used of the room lies in it, and the scan has its line. What was written, and then the room, and then the lines past the scan are the lines
-- of the text.
use Rattle.std.proofs.Common.{length, drop, take, false, ◌++◌}
use Rattle.text.specs.Chars.{chars}
use Rattle.lexer.specs.Steps.{start_of}
use Rattle.printing.specs.Said.{lined_past}
use Rattle.printing.specs.Written.{Written}
use Rattle.printing.proofs.Parts.{Saying}
use Rattle.printing.proofs.say_lined.Given as goal

abbrev pub invariant-loop-scan : goal.invariant-loop-scan
invariant-loop-scan g l = Saying l.source.lists l.source.text l.out l.used l.scan
    × Written (g.W.Write.contents l.fn.to) (g.W.Write.contents l.to) (take l.used l.out ++ lined_past l.source.lists l.source.text l.scan) (lined_past l.source.lists l.source.text (start_of false))

abbrev pub decreases-loop-scan : goal.decreases-loop-scan
decreases-loop-scan g l = length (chars (drop l.scan.next l.source.text))
