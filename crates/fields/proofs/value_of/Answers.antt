use mathlib.Core.Path.{refl, ◌∙◌}
use native.Mathlib.Omega.{arith}
use Rattle.fields.proofs.Values.{too_much, value_on, value_ends}
use Rattle.fields.proofs.value_of.Goals as goal

pub returns-in_err-checked_mul : goal.returns-in_err-checked_mul
returns-in_err-checked_mul c =
    c.from_residual-in_err-checked_mul.ensures ∙ too_much c.loop-c.invariant c.loop-c-test.true c.in_ok-digit.ensures c.requires refl (omega (arith, c.in_err-checked_mul.ensures))

pub returns-in_err-n : goal.returns-in_err-n
returns-in_err-n c = c.from_residual-in_err-n.ensures ∙ too_much c.loop-c.invariant c.loop-c-test.true c.in_ok-digit.ensures c.requires refl (omega (arith, c.in_err-n.ensures, c.in_ok-checked_mul.ensures))

pub returns-then-most-n : goal.returns-then-most-n
returns-then-most-n c = too_much c.loop-c.invariant c.loop-c-test.true c.in_ok-digit.ensures c.requires (omega (arith, c.in_ok-n.ensures, c.in_ok-checked_mul.ensures)) c.if-most-n.true

pub loop-c-preserved : goal.loop-c-preserved
loop-c-preserved c = value_on c.loop-c.invariant c.loop-c-test.true c.in_ok-digit.ensures (omega (arith, c.in_ok-n.ensures, c.in_ok-checked_mul.ensures)) c.if-most-n.false

pub returns : goal.returns
returns c = search value_ends
