-- `list::tokenize` meets its contract. What was counted is written (Fills).
use Rattle.ranges.specs.declared.TheConstants.{MAX_PAIRS}
use Rattle.token.specs.Lists.{Lists, lent}
use Rattle.lexer.proofs.Sources.{source_fine, source_is}
use Rattle.list.proofs.Fills.{written_in}
use Rattle.list.proofs.tokenize.Goals as goal

pub returns : goal.returns
returns c =
    let L : Lists = lent c.args.starts.now c.args.continues.now c.args.emoji.now in
    let x = source_is MAX_PAIRS c.args.text.now L c.new.ensures c.in_ok-source.was in
    written_in MAX_PAIRS c.args.text.now L c.args.on c.args.out.now (source_fine MAX_PAIRS c.args.text.now L c.new.ensures c.in_ok-source.was) (rw x at c.fitting.ensures) c.in_ok-n.was c.start.ensures.scan (rw x at c.fill.ensures)
