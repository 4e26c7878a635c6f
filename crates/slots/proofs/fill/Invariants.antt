-- `slots::fill` meets its contract. `Slotting`: the numbers put, followed by those of the tokens from the position on, are the text's (Fillings).
use lib.ListN.{length, drop}
use Rattle.text.specs.Chars.{chars}
use Rattle.slots.proofs.Fillings.{Slotting}
use Rattle.slots.proofs.fill.Given as goal

abbrev pub invariant-loop-scan : goal.invariant-loop-scan
invariant-loop-scan l = Slotting l.source.lists l.source.text l.on l.initial.slots l.slots l.used l.scan

abbrev pub decreases-loop-scan : goal.decreases-loop-scan
decreases-loop-scan l = length (chars (drop l.scan.next l.source.text))
