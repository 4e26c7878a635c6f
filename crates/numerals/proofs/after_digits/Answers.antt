-- `numerals::after_digits` meets its contract. The rule, by whether there is a digit (Rules).
use Rattle.numerals.proofs.Rules.{digits_some, digits_none}
use Rattle.numerals.proofs.after_digits.Goals as goal

pub returns-then-digits : goal.returns-then-digits
returns-then-digits c = search digits_some

pub returns : goal.returns
returns c = search digits_none
