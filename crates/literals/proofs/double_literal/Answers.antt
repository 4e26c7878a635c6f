-- `literals::double_literal` meets its contract. The body, and then its suffix (Suffixes).
use Rattle.literals.proofs.Suffixes.{double_in}
use Rattle.literals.proofs.double_literal.Goals as goal

pub returns : goal.returns
returns c = search double_in
