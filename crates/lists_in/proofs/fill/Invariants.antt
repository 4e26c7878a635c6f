-- `lists_in::fill` meets its contract: record by record (Filling).
use Prim.Native.Nat.{◌-◌}
use Rattle.lists_in.proofs.Filling.{Filling}
use Rattle.lists_in.proofs.fill.Given as goal

abbrev pub invariant-loop-k : goal.invariant-loop-k
invariant-loop-k l = Filling l.file l.from l.pairs l.initial.run l.run l.at l.k

abbrev pub decreases-loop-k : goal.decreases-loop-k
decreases-loop-k l = l.pairs - l.k
