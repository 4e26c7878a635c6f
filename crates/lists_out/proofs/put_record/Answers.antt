-- `lists_out::put_record` meets its contract. Six puts, each right past the one before (Lines).
use Rattle.lists_out.proofs.Lines.{record_put}
use Rattle.lists_out.proofs.put_record.Goals as goal

pub returns : goal.returns
returns c = search record_put
