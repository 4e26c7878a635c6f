-- `comment::whitespace` meets its contract. The rule, from the run of its scan (Rules).
use Rattle.comment.proofs.Rules.{whitespace_in}
use Rattle.comment.proofs.whitespace.Goals as goal

pub returns : goal.returns
returns c = search whitespace_in
