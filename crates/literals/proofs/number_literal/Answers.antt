-- `literals::number_literal` meets its contract. The body, and then its suffix (Suffixes).
use Rattle.literals.proofs.Suffixes.{number_in}
use Rattle.literals.proofs.number_literal.Goals as goal

pub returns : goal.returns
returns c = search number_in
