-- `engine::lay` meets its contract. Put or counted (Lays).
use Rattle.engine.proofs.Lays.{room_put, laid_put, laid_counted}
use Rattle.engine.proofs.lay.Goals as goal

pub put_bytes-requires : goal.put_bytes-requires
put_bytes-requires c = search room_put

pub returns-then-writing : goal.returns-then-writing
returns-then-writing c = search laid_put

pub returns : goal.returns
returns c = search laid_counted
