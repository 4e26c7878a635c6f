-- `numerals::after_point` meets its contract. The rule, by the next character (Rules).
use Rattle.numerals.proofs.Rules.{point_digits, point_none}
use Rattle.numerals.proofs.after_point.Goals as goal

pub returns-then-is_digit : goal.returns-then-is_digit
returns-then-is_digit c = search point_digits

pub returns : goal.returns
returns c = search point_none
