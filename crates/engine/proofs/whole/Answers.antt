-- `engine::whole` meets its contract. The machine's result on the replaced text (Wholes).
use Rattle.engine.proofs.Wholes.{whole_closes, whole_made}
use Rattle.engine.proofs.whole.Goals as goal

pub close-requires : goal.close-requires
close-requires c = search whole_closes

pub returns : goal.returns
returns c = search whole_made
