-- `slots::tokens` meets its contract. What was counted is written (Calls).
use Rattle.ranges.specs.declared.TheConstants.{MAX_PAIRS}
use Rattle.token.specs.Lists.{Lists, lent}
use Rattle.lexer.proofs.Sources.{source_fine, source_is}
use Rattle.slots.proofs.Calls.{fill_room, listed_in}
use Rattle.slots.proofs.tokens.Goals as goal

pub fill-requires : goal.fill-requires
fill-requires c =
    let L : Lists = lent c.args.starts.now c.args.continues.now c.args.emoji.now in
    let x = source_is MAX_PAIRS c.args.text.now L c.new.ensures c.in_ok-source.was in
    rw x (fill_room MAX_PAIRS c.args.text.now L c.args.on c.args.slots.now (source_fine MAX_PAIRS c.args.text.now L c.new.ensures c.in_ok-source.was) (rw x at c.fitting.ensures) c.in_ok-n.was)

pub returns : goal.returns
returns c =
    let L : Lists = lent c.args.starts.now c.args.continues.now c.args.emoji.now in
    let x = source_is MAX_PAIRS c.args.text.now L c.new.ensures c.in_ok-source.was in
    listed_in MAX_PAIRS c.args.text.now L c.args.on c.args.slots.now (source_fine MAX_PAIRS c.args.text.now L c.new.ensures c.in_ok-source.was) (rw x at c.fitting.ensures) c.in_ok-n.was (rw x at c.fill.ensures)
