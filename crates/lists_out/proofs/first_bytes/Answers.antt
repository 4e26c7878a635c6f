-- `lists_out::first_bytes` meets its contract. There is room for the first line of any version (Lines).
use Rattle.lists_out.proofs.Lines.{first_short}
use Rattle.lists_out.proofs.first_bytes.Goals as goal

pub put_first-requires : goal.put_first-requires
put_first-requires c = search first_short
