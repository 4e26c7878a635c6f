-- `literals::single_literal` meets its contract. The body, and then its suffix (Suffixes).
use Rattle.literals.proofs.Suffixes.{single_in}
use Rattle.literals.proofs.single_literal.Goals as goal

pub returns : goal.returns
returns c = search single_in
