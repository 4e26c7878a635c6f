-- `engine::close` meets its contract. What the machine says of the bytes that are left (Closes).
use Rattle.engine.proofs.Closes.{close_feeds, close_room, close_rest, close_broken}
use Rattle.engine.proofs.close.Goals as goal

pub run-ran-requires : goal.run-ran-requires
run-ran-requires c = search close_feeds

pub lay_before-requires : goal.lay_before-requires
lay_before-requires c = search close_room

pub returns-in-None : goal.returns-in-None
returns-in-None c = search close_broken

pub returns-in-Some : goal.returns-in-Some
returns-in-Some c = search close_rest
