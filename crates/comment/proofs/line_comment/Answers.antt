-- `comment::line_comment` meets its contract. The rule, from the run of its scan (Rules).
use Rattle.comment.proofs.Rules.{line_in}
use Rattle.comment.proofs.line_comment.Goals as goal

pub returns : goal.returns
returns c = search (line_in, c.doc_style-doc_style.ensures.line)
