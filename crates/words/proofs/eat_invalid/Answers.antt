-- `words::eat_invalid` meets its contract. What the closure answers is the class of the character.
use Rattle.std.proofs.Common.{rules}
use Rattle.words.proofs.eat_invalid.Goals as goal

pub returns : goal.returns
returns c = c.eat_while.ensures _ (λ x b n q. search rules)
