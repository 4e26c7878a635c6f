use native.Mathlib.Omega.{arith}
use Rattle.fields.proofs.Puts.{lay_room, lay_on, lay_ends}
use Rattle.fields.proofs.lay.Goals as goal

pub overflow_sub-at : goal.overflow_sub-at
overflow_sub-at c = lay_room c.requires.base c.loop-rest.invariant (omega arith)

pub bounds-room-at : goal.bounds-room-at
bounds-room-at c = omega (arith, lay_room c.requires.base c.loop-rest.invariant (omega arith))

pub loop-rest-smaller : goal.loop-rest-smaller
loop-rest-smaller c = omega (arith, lay_room c.requires.base c.loop-rest.invariant (omega arith))

pub loop-rest-preserved : goal.loop-rest-preserved
loop-rest-preserved c = lay_on c.requires.base c.loop-rest.invariant (omega arith) c.digit_byte.ensures c.if-rest-eq0.false

pub returns-then-rest-eq0-clause-laid : goal.returns-then-rest-eq0-clause-laid
returns-then-rest-eq0-clause-laid c = lay_ends c.requires.base c.loop-rest.invariant (omega arith) c.digit_byte.ensures c.if-rest-eq0.true
