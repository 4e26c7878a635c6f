-- `lexer::advance_token` meets its contract. What the verdict lets through, and the position (Checks, Sources).
use mathlib.Core.Path.{refl}
use Rattle.ranges.specs.declared.TheConstants.{MAX_PAIRS}
use Rattle.token.specs.Lists.{Lists, lent}
use Rattle.lexer.proofs.Checks.{text_fits, at_within, at_lined, given_in, position_in}
use Rattle.lexer.proofs.Sources.{source_fine, source_is}
use Rattle.lexer.proofs.advance_token.Goals as goal

pub before-requires : goal.before-requires
before-requires c =
    let L : Lists = lent c.args.starts.now c.args.continues.now c.args.emoji.now in
    let k = source_fine MAX_PAIRS c.args.text.now L c.new.ensures c.in_ok-source.was in
    (at_within MAX_PAIRS c.args.text.now L refl k c.args.at c.args.on c.starts_here.ensures c.if-not-starts_here.false, text_fits MAX_PAIRS c.args.text.now L refl k)

pub step-requires : goal.step-requires
step-requires c =
    let L : Lists = lent c.args.starts.now c.args.continues.now c.args.emoji.now in
    let k = source_fine MAX_PAIRS c.args.text.now L c.new.ensures c.in_ok-source.was in
    rw (source_is MAX_PAIRS c.args.text.now L c.new.ensures c.in_ok-source.was)
    (at_lined MAX_PAIRS c.args.text.now L refl k c.args.at c.args.on c.starts_here.ensures c.if-not-starts_here.false c.before-2.ensures)

pub returns-then-not-starts_here : goal.returns-then-not-starts_here
returns-then-not-starts_here c =
    let L : Lists = lent c.args.starts.now c.args.continues.now c.args.emoji.now in
    position_in MAX_PAIRS c.args.text.now L refl (source_fine MAX_PAIRS c.args.text.now L c.new.ensures c.in_ok-source.was) c.args.at c.args.on c.starts_here.ensures c.if-not-starts_here.true

pub returns : goal.returns
returns c =
    let L : Lists = lent c.args.starts.now c.args.continues.now c.args.emoji.now in
    given_in MAX_PAIRS c.args.text.now L refl (source_fine MAX_PAIRS c.args.text.now L c.new.ensures c.in_ok-source.was) c.args.at c.args.on c.starts_here.ensures c.if-not-starts_here.false c.before-2.ensures
    (rw (source_is MAX_PAIRS c.args.text.now L c.new.ensures c.in_ok-source.was) at c.step.ensures.token)
