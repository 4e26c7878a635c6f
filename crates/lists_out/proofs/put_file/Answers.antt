-- `lists_out::put_file` meets its contract. Four puts, each right past the one before (Lines).
use Rattle.lists_out.proofs.Lines.{first_room, file_put}
use Rattle.lists_out.proofs.put_file.Goals as goal

pub put_first-first-requires : goal.put_first-first-requires
put_first-first-requires c = search first_room

pub returns : goal.returns
returns c = search file_put
