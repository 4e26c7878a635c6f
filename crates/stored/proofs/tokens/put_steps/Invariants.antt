-- `stored::tokens::put_steps` meets its contract. Each turn puts one token more, and the scan has its line.
use Rattle.std.proofs.Common.{◌≡◌, ◌-◌, ◌≤◌, length}
use Rattle.lexer.specs.Ready.{Lined}
use Rattle.stored.proofs.tokens.put_steps.Given as goal

abbrev pub invariant-loop-at : goal.invariant-loop-at
invariant-loop-at l = (l.at ≤ length l.out) × (length l.out ≡ length l.initial.out) × Lined l.source.text l.scan

abbrev pub decreases-loop-at : goal.decreases-loop-at
decreases-loop-at l = length l.initial.out - l.at
