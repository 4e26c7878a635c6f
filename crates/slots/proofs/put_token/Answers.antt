-- `slots::put_token` meets its contract. The codes of the kind, and a start that fits (Putting).
use Rattle.slots.proofs.Putting.{token_put}
use Rattle.slots.proofs.put_token.Goals as goal

pub returns : goal.returns
returns c = search token_put
