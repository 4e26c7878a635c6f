-- `puts::put_byte` meets its contract. One store is one byte put (Puts).
use Rattle.puts.proofs.Puts.{one_put}
use Rattle.puts.proofs.put_byte.Goals as goal

pub returns : goal.returns
returns c = search one_put
