-- `exports::lovemudarn_tokens_from` meets its contract. What the checks and the position let through, by cases (Goings).
use mathlib.Core.Path.{refl}
use Rattle.std.proofs.Common.{rules}
use Rattle.ranges.specs.declared.TheConstants.{MAX_PAIRS}
use Rattle.token.specs.Lists.{Lists, lent}
use Rattle.lexer.proofs.Sources.{source_fine, source_is}
use Rattle.exports.proofs.Goings.{going_ready, given_run, position_run}
use Rattle.exports.proofs.lovemudarn_tokens_from.Goals as goal

pub returns-then-not-starts_here : goal.returns-then-not-starts_here
returns-then-not-starts_here c =
    let L : Lists = lent c.args.starts.now c.args.continues.now c.args.emoji.now in
    position_run MAX_PAIRS c.args.text.now L refl (source_fine MAX_PAIRS c.args.text.now L c.new.ensures c.in-Ok.is) c.args.at c.starts_here.ensures c.args.on c.if-not-starts_here.true (search rules)

pub put_run-requires : goal.put_run-requires
put_run-requires c =
    let L : Lists = lent c.args.starts.now c.args.continues.now c.args.emoji.now in
    rw (source_is MAX_PAIRS c.args.text.now L c.new.ensures c.in-Ok.is)
    (going_ready MAX_PAIRS c.args.text.now L refl (source_fine MAX_PAIRS c.args.text.now L c.new.ensures c.in-Ok.is) c.args.at c.starts_here.ensures c.if-not-starts_here.false)

pub returns : goal.returns
returns c =
    let L : Lists = lent c.args.starts.now c.args.continues.now c.args.emoji.now in
    given_run MAX_PAIRS c.args.text.now L refl (source_fine MAX_PAIRS c.args.text.now L c.new.ensures c.in-Ok.is) c.args.at c.starts_here.ensures c.args.on c.if-not-starts_here.false
    (rw (source_is MAX_PAIRS c.args.text.now L c.new.ensures c.in-Ok.is) at c.put_run.ensures)
