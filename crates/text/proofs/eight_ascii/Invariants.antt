-- `text::eight_ascii` meets its contract. The loop joins the bytes that it has passed (Runs).
use Rattle.text.proofs.Runs.{Joined}
use Prim.Native.Nat.{◌-◌}
use Rattle.text.proofs.eight_ascii.Given as goal

abbrev pub invariant-loop-i : goal.invariant-loop-i
invariant-loop-i l = Joined l.text l.at l.bits l.i

abbrev pub decreases-loop-i : goal.decreases-loop-i
decreases-loop-i l = 8 - l.i
