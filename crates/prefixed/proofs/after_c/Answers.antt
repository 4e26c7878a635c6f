-- `prefixed::after_c` meets its contract. The rule, by the next two characters (Rules).
use Rattle.prefixed.proofs.Rules.{string_in, raw_string_in, no_string_in}
use Rattle.prefixed.proofs.after_c.Goals as goal

pub returns-then-c-eq34 : goal.returns-then-c-eq34
returns-then-c-eq34 c = search string_in

pub returns-then-is_raw : goal.returns-then-is_raw
returns-then-is_raw c = search raw_string_in

pub returns : goal.returns
returns c = search no_string_in
