-- `words::eat_identifier` meets its contract. By the next character (Rules).
use Rattle.words.proofs.Rules.{identifier_in, identifier_none}
use Rattle.words.proofs.eat_identifier.Goals as goal

pub returns-then-is_start : goal.returns-then-is_start
returns-then-is_start c = search identifier_in

pub returns : goal.returns
returns c = search identifier_none
