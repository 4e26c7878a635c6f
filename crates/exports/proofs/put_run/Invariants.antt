-- `exports::put_run` meets its contract. `Running`: the numbers put, followed by those of the tokens that there are slots for, are the run's (Runs).
use Prim.Native.Nat.{◌-◌, ◌*◌}
use mathlib.Core.Path.{◌≡◌}
use Rattle.slots.specs.Numbers.{width}
use Rattle.exports.proofs.Runs.{Running}
use Rattle.exports.proofs.put_run.Given as goal

abbrev pub invariant-loop-done : goal.invariant-loop-done
invariant-loop-done l = record {
  running : Running l.source.lists l.source.text l.at l.on l.initial.slots l.slots (l.most - l.done) l.used l.scan;
  slots_used : l.used ≡ width * l.done;
}
