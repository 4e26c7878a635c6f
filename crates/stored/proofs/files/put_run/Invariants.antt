-- `stored::files::put_run` meets its contract.
use Rattle.std.proofs.Common.{◌≡◌, ◌≤◌, length}
use Rattle.stored.proofs.files.put_run.Given as goal

abbrev pub invariant-loop-n : goal.invariant-loop-n
invariant-loop-n l = (l.next ≤ length l.out) × (length l.out ≡ length l.initial.out)
