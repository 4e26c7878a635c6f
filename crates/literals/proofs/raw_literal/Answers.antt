-- `literals::raw_literal` meets its contract. The body, and then its suffix, with a count only (Suffixes).
use Rattle.literals.proofs.Suffixes.{raw_in}
use Rattle.literals.proofs.raw_literal.Goals as goal

pub returns : goal.returns
returns c = search raw_in
