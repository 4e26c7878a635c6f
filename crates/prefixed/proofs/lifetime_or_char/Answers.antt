-- `prefixed::lifetime_or_char` meets its contract. A lifetime was found, or a character literal is read (Rules).
use Rattle.prefixed.proofs.Rules.{life_in, char_in}
use Rattle.prefixed.proofs.lifetime_or_char.Goals as goal

pub returns-in-Some : goal.returns-in-Some
returns-in-Some c = life_in _ c.in-Some.ensures

pub returns-in-None : goal.returns-in-None
returns-in-None c = char_in _ c.in-None.ensures c.single_literal.ensures
