-- `numerals::maybe_exponent` meets its contract. The rule, by the next character (Rules).
use Rattle.numerals.proofs.Rules.{some_e, no_e}
use Rattle.numerals.proofs.maybe_exponent.Goals as goal

pub returns-in-69 : goal.returns-in-69
returns-in-69 c = search some_e

pub returns-in_default : goal.returns-in_default
returns-in_default c = search no_e
