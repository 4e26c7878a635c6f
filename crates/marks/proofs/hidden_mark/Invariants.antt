-- `marks::hidden_mark` meets its contract. From the left, none before the place reached (Places; Searches of `places`).
use lib.ListN.{length}
use Prim.Native.Nat.{◌-◌}
use Rattle.places.proofs.Searches.{NoneBefore}
use Rattle.marks.specs.Front.{mark_at}
use Rattle.marks.proofs.hidden_mark.Given as goal

abbrev pub invariant-loop-at : goal.invariant-loop-at
invariant-loop-at l = NoneBefore mark_at l.text l.at

abbrev pub decreases-loop-at : goal.decreases-loop-at
decreases-loop-at l = length l.text - l.at
