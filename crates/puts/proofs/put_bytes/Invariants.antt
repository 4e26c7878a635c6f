-- `puts::put_bytes` meets its contract. The loop copies byte by byte (Puts).
use Prim.Native.Nat.{◌-◌}
use lib.ListN.{length}
use Rattle.puts.proofs.Puts.{Copying}
use Rattle.puts.proofs.put_bytes.Given as goal

abbrev pub invariant-loop-i : goal.invariant-loop-i
invariant-loop-i l = Copying l.s l.initial.out l.at l.out l.i

abbrev pub decreases-loop-i : goal.decreases-loop-i
decreases-loop-i l = length l.s - l.i
