-- `prefixed::after_k` meets its contract. The rule, by the next two characters (Rules).
use Rattle.prefixed.proofs.Rules.{forced_in, unforced_in}
use Rattle.prefixed.proofs.after_k.Goals as goal

pub returns-then-is_raw_name : goal.returns-then-is_raw_name
returns-then-is_raw_name c = rw c.plain.ensures (search forced_in)

pub returns : goal.returns
returns c = search unforced_in
