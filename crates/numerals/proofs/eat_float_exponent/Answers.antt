-- `numerals::eat_float_exponent` meets its contract. The rule, from the sign and the digits that were counted (Rules).
use Rattle.numerals.proofs.Rules.{exponent_in}
use Rattle.numerals.proofs.eat_float_exponent.Goals as goal

pub returns : goal.returns
returns c = search exponent_in
