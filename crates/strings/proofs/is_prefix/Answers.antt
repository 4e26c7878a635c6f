-- `strings::is_prefix` meets its contract. By the length of the prefix, and then its letters (Calls).
use native.Mathlib.Omega.{arith}
use Rattle.strings.proofs.Calls.{prefix_r, prefix_other, prefix_b, prefix_c}
use Rattle.strings.proofs.is_prefix.Goals as goal

pub returns-in-1 : goal.returns-in-1
returns-in-1 c = search prefix_r

pub returns-then-starts_with : goal.returns-then-starts_with
returns-then-starts_with c = search prefix_b

pub returns-else-starts_with : goal.returns-else-starts_with
returns-else-starts_with c = search prefix_c

pub returns-in_default : goal.returns-in_default
returns-in_default c = prefix_other _ (λ q. omega arith) (λ q. omega arith)
