-- `advance::advance_token` meets its contract. On, or off (Fronts).
use Rattle.advance.proofs.Fronts.{on_in, off_in}
use Rattle.advance.proofs.advance_token.Goals as goal

pub returns-then-on : goal.returns-then-on
returns-then-on c = search on_in

pub returns : goal.returns
returns c = search off_in
