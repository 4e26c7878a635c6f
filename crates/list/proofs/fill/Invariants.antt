-- `list::fill` meets its contract. What is still to be written makes of the records now what all of it makes of the old ones (Fills).
use Rattle.list.proofs.Fills.{Filling}
use Rattle.list.proofs.fill.Given as goal

abbrev pub invariant-loop-i : goal.invariant-loop-i
invariant-loop-i l = Filling l.source.lists l.source.text l.n l.fn.s l.initial.out l.i l.c l.out
