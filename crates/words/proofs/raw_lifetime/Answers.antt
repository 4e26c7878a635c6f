-- `words::raw_lifetime` meets its contract. Two characters, and a run of one kind (Names).
use Rattle.words.proofs.Names.{raw_name_in}
use Rattle.words.proofs.raw_lifetime.Goals as goal

pub returns : goal.returns
returns c = search raw_name_in
