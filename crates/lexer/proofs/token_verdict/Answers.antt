-- `lexer::token_verdict` meets its contract. The checks in their order.
use Rattle.lexer.specs.Answers.{token_verdict}
use Rattle.lexer.proofs.token_verdict.Goals as goal

pub returns : goal.returns
unfolding token_verdict
returns c = cc
