use native.Mathlib.Omega.{arith}
use Rattle.lists_out.proofs.Groups.{opened, grouping_none, grouped_room, grouped_on, grouped_all}
use Rattle.lists_out.proofs.put_group.Goals as goal

pub loop-rest-init : goal.loop-rest-init
loop-rest-init c = search grouping_none

pub put_record-n-requires : goal.put_record-n-requires
put_record-n-requires c = grouped_room c.requires c.loop-rest.invariant (opened _ c.in-len2-up.len_at_least)

pub loop-rest-preserved : goal.loop-rest-preserved
loop-rest-preserved c = grouped_on c.requires c.loop-rest.invariant (opened _ c.in-len2-up.len_at_least) c.put_record-n.ensures

pub returns : goal.returns
returns c = grouped_all c.loop-rest.invariant (omega arith)
