-- `words::lifetime` meets its contract. The rule, by the first two characters (Names).
use Rattle.words.proofs.Names.{quote_second, found_r, found_digit, found_name, name_none}
use Rattle.words.proofs.lifetime.Goals as goal

pub returns-then-second-eq39 : goal.returns-then-second-eq39
returns-then-second-eq39 c = search quote_second

pub returns-in-114 : goal.returns-in-114
returns-in-114 c = search found_r

pub returns-in_default : goal.returns-in_default
returns-in_default c = search found_digit

pub returns-in_default-2 : goal.returns-in_default-2
returns-in_default-2 c = search found_name

pub returns-in_default-3 : goal.returns-in_default-3
returns-in_default-3 c = search name_none
