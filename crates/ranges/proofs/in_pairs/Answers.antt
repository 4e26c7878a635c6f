use Prim.Native.Nat.{◌+◌, ◌-◌, ◌/◌}
use native.Mathlib.Omega.{arith}
use Rattle.ranges.proofs.Search.{seek_start, seek_below, seek_above, seek_hit, seek_end}
use Rattle.ranges.proofs.Turns.{fewer}
use Rattle.ranges.proofs.in_pairs.Goals as goal

pub loop-begin-init : goal.loop-begin-init
loop-begin-init c = seek_start (omega arith)

pub loop-begin-smaller-then-c-low : goal.loop-begin-smaller-then-c-low
loop-begin-smaller-then-c-low c = fewer _ _ (omega arith) (omega arith)

pub loop-begin-preserved-then-c-low : goal.loop-begin-preserved-then-c-low
loop-begin-preserved-then-c-low c = seek_below c.requires c.loop-begin.invariant c.if-c-low.true (omega arith) (omega arith) (omega arith)

pub loop-begin-smaller : goal.loop-begin-smaller
loop-begin-smaller c = fewer _ _ (omega arith) (omega arith)

pub loop-begin-preserved : goal.loop-begin-preserved
loop-begin-preserved c = seek_above c.requires c.loop-begin.invariant {m = c.loop-begin.begin + (c.loop-begin.end - c.loop-begin.begin) / 2} (omega arith) (omega arith) (omega arith) (omega arith)

pub returns-else-high-c : goal.returns-else-high-c
returns-else-high-c c = seek_hit _ _ c.if-c-low.false c.if-high-c.false (omega arith)

pub returns : goal.returns
returns c = search seek_end
