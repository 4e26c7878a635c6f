use native.Mathlib.Omega.{arith}
use Rattle.lists_out.proofs.Groups.{opened, counted_on, counted_all}
use Rattle.lists_out.proofs.group_bytes.Goals as goal

pub loop-rest-preserved : goal.loop-rest-preserved
loop-rest-preserved c = counted_on c.loop-rest.invariant (opened _ c.in-len2-up.len_at_least) c.record_bytes-n.ensures

pub returns : goal.returns
returns c = counted_all c.loop-rest.invariant (omega arith)
