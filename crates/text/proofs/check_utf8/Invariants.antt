-- `text::check_utf8` meets its contract. The loop has reached a place up to which characters take every byte (Places), one character or a run of ASCII further each turn (Runs).
use Rattle.text.proofs.Places.{Reached}
use lib.ListN.{length}
use Prim.Native.Nat.{◌-◌}
use Rattle.text.proofs.check_utf8.Given as goal

abbrev pub invariant-loop-at : goal.invariant-loop-at
invariant-loop-at l = Reached l.text l.at

abbrev pub decreases-loop-at : goal.decreases-loop-at
decreases-loop-at l = length l.text - l.at
