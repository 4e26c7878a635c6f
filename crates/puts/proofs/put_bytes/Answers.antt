use Rattle.puts.proofs.Puts.{copy_starts, copied, pasted}
use Rattle.puts.proofs.put_bytes.Goals as goal

pub loop-i-init : goal.loop-i-init
loop-i-init c = search copy_starts

pub loop-i-preserved : goal.loop-i-preserved
loop-i-preserved c = search copied

pub returns : goal.returns
returns c = search pasted
