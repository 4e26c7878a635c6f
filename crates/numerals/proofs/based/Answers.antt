-- `numerals::based` meets its contract. The rule, from the digits that were counted (Rules).
use Rattle.numerals.proofs.Rules.{based_in}
use Rattle.numerals.proofs.based.Goals as goal

pub returns : goal.returns
returns c = search based_in
