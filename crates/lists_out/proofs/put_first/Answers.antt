-- `lists_out::put_first` meets its contract. Five puts, each right past the one before (Lines).
use Rattle.lists_out.proofs.Lines.{first_put}
use Rattle.lists_out.proofs.put_first.Goals as goal

pub returns : goal.returns
returns c = search first_put
