-- `comment::block_comment` meets its contract. The rule, from the run of its scan (Rules).
use Rattle.comment.proofs.Rules.{block_in}
use Rattle.comment.proofs.block_comment.Goals as goal

pub returns : goal.returns
returns c = search (block_in, c.doc_style-doc_style.ensures.block)
