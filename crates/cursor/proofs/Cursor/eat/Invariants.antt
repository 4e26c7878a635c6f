-- `cursor::Cursor::eat` meets its contract. `Eating`: how many of the characters are passed (Moves).
use Prim.Native.Nat.{◌-◌}
use Rattle.cursor.proofs.Moves.{Eating}
use Rattle.cursor.proofs.Cursor.eat.Given as goal

abbrev pub invariant-loop : goal.invariant-loop
invariant-loop l = Eating l.count l.text l.initial.cur l.cur l.counter

abbrev pub decreases-loop : goal.decreases-loop
decreases-loop l = l.count - l.counter
