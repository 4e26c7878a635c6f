-- `comment::slash` meets its contract. The rule, by the next character (Rules).
use Rattle.comment.proofs.Rules.{slash_line, slash_block, slash_alone}
use Rattle.comment.proofs.slash.Goals as goal

pub returns-then-c-eq47 : goal.returns-then-c-eq47
returns-then-c-eq47 c = search slash_line

pub returns-then-c-eq42 : goal.returns-then-c-eq42
returns-then-c-eq42 c = search slash_block

pub returns : goal.returns
returns c = search slash_alone
