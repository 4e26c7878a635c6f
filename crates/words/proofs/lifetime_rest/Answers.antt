-- `words::lifetime_rest` meets its contract. The rule, by the character after the name (Names).
use Rattle.words.proofs.Names.{closed_in, prefixed_in, numbered_in, lifetime_in}
use native.Mathlib.Omega.{arith}
use Rattle.words.proofs.lifetime_rest.Goals.{in_default-via-in-35+else-not-numbered, in_default-via-in_default-1}
use Rattle.words.proofs.lifetime_rest.Goals as goal

pub returns-in-39 : goal.returns-in-39
returns-in-39 c = search closed_in

pub returns-in-35 : goal.returns-in-35
returns-in-35 c = rw c.plain.ensures (prefixed_in _ _ c.eat_continue-next.ensures c.first.ensures (λ q. omega arith) c.in-35.is c.if-not-numbered.true)

pub returns-in_default : goal.returns-in_default
returns-in_default c =
    rw c.plain-in_default.ensures
    (elim c.in_default.branch [ in_default-via-in-35+else-not-numbered w ↦ numbered_in _ _ c.eat_continue-next.ensures c.first.ensures (λ q. omega arith) w.if-not-numbered.false | in_default-via-in_default-1 w ↦ search lifetime_in ])
