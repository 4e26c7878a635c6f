-- `numerals::eat_sign` meets its contract. The rule, by the next character (Rules).
use Rattle.numerals.proofs.Rules.{signed_in, unsigned_in}
use Rattle.numerals.proofs.eat_sign.Goals as goal

pub returns-in-43 : goal.returns-in-43
returns-in-43 c = search signed_in

pub returns-in_default : goal.returns-in_default
returns-in_default c = search unsigned_in
