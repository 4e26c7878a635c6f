-- `quoted::eat_hashes_most` meets its contract. `CountingMost`: the hashes so far, and how many are still allowed (Pounds).
use Rattle.quoted.proofs.Pounds.{CountingMost}
use Rattle.quoted.proofs.eat_hashes_most.Given as goal

abbrev pub invariant-loop-count : goal.invariant-loop-count
invariant-loop-count l = CountingMost l.most l.text l.initial.cur l.cur l.count
