-- `prefixed::after_r` meets its contract. The rule, by the next two characters (Rules).
use Rattle.prefixed.proofs.Rules.{raw_name_in, raw_in, no_raw_in}
use Rattle.prefixed.proofs.after_r.Goals as goal

pub returns-then-is_raw_name : goal.returns-then-is_raw_name
returns-then-is_raw_name c = rw c.plain.ensures (search raw_name_in)

pub returns-then-is_hash_or_quote : goal.returns-then-is_hash_or_quote
returns-then-is_hash_or_quote c = search raw_in

pub returns : goal.returns
returns c = search no_raw_in
