-- `numerals::decimal` meets its contract. The rule, from the digits that were counted (Rules).
use Rattle.numerals.proofs.Rules.{decimal_in}
use Rattle.numerals.proofs.decimal.Goals as goal

pub returns : goal.returns
returns c = search decimal_in
