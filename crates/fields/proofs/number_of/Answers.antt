-- `fields::number_of` meets its contract: no leading zero, and then the digits (Values).
use Rattle.fields.proofs.Values.{number_padded, number_valued}
use Rattle.fields.proofs.number_of.Goals as goal

pub returns-then-not-unpadded : goal.returns-then-not-unpadded
returns-then-not-unpadded c = search number_padded

pub returns : goal.returns
returns c = search number_valued
