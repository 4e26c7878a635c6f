-- `waits::readable` meets its contract. By the verdict on the bytes (Calls).
use Rattle.waits.proofs.Calls.{ready_refused}
use Rattle.waits.proofs.readable.Goals as goal

pub returns-in-Err : goal.returns-in-Err
returns-in-Err c = search ready_refused
