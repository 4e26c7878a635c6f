-- `lines::fill` meets its contract. `Filling`: what was put, followed by what is put from here on, is what is put from the start (Filling).
use Rattle.lines.proofs.Filling.{Filling}
use lib.ListN.{length, drop}
use Rattle.text.specs.Chars.{chars}
use Rattle.lines.proofs.fill.Given as goal

abbrev pub invariant-loop-out : goal.invariant-loop-out
invariant-loop-out l = Filling l.source.lists l.source.text l.at l.initial.out l.out l.next l.used

abbrev pub decreases-loop-out : goal.decreases-loop-out
decreases-loop-out l = length (chars (drop l.next l.source.text))
