-- `lexer::step` meets its contract. The token found there, in its place (Stepping), and it goes on in the text (Walks).
use Rattle.lexer.proofs.Stepping.{stepped_in}
use Rattle.lexer.proofs.Walks.{next_lined}
use Rattle.lexer.proofs.step.Goals as goal

pub returns-clause-token : goal.returns-clause-token
returns-clause-token c = stepped_in c.args.source.now.lists c.args.source.now.text c.args.c (rw c.text.ensures.bytes at c.next_line-line.ensures) c.bare_token-found.ensures

pub returns-clause-lined : goal.returns-clause-lined
returns-clause-lined c = next_lined c.args.source.now.lists c.args.source.now.text c.args.c (returns-clause-token c) c.requires
