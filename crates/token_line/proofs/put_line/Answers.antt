-- `token_line::put_line` meets its contract. How it begins, and its end (Puts).
use Rattle.token_line.proofs.Puts.{line_put}
use Rattle.token_line.proofs.put_line.Goals as goal

pub returns : goal.returns
returns c = search line_put
