-- `slots::put_slot` meets its contract. Each store is a number put (Putting).
use lib.ListN.{length-set}
use native.Mathlib.Omega.{arith}
use Rattle.slots.proofs.Putting.{slot_put}
use Rattle.slots.proofs.put_slot.Goals as goal

pub bounds-slots-n-2 : goal.bounds-slots-n-2
bounds-slots-n-2 c = simp length-set (omega arith)

pub bounds-slots-n-3 : goal.bounds-slots-n-3
bounds-slots-n-3 c = simp length-set (omega arith)

pub bounds-slots-n-4 : goal.bounds-slots-n-4
bounds-slots-n-4 c = simp length-set (omega arith)

pub bounds-slots-n-5 : goal.bounds-slots-n-5
bounds-slots-n-5 c = simp length-set (omega arith)

pub returns : goal.returns
returns c = search slot_put
