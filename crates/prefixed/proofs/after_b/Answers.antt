-- `prefixed::after_b` meets its contract. The rule, by the next character (Rules).
use Rattle.prefixed.proofs.Rules.{byte_in, no_byte_in}
use Rattle.prefixed.proofs.after_b.Goals as goal

pub returns-then-c-eq39 : goal.returns-then-c-eq39
returns-then-c-eq39 c = search byte_in

pub returns : goal.returns
returns c = search no_byte_in
