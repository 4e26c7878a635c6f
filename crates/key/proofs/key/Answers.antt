-- `key::key` meets its contract. The verdict, CR CR LF, hidden marks, and then the key (Calls).
use mathlib.Core.Path.{refl}
use Rattle.std.proofs.lemmas.Result.{err_from_is_err_and}
use Rattle.ranges.specs.declared.TheConstants.{MAX_PAIRS}
use Rattle.token.specs.Lists.{Lists, lent}
use Rattle.lexer.proofs.Sources.{source_refused, source_fine, source_is}
use Rattle.key.proofs.Calls.{refused_in, doubled_in, well_in, marked_in, checked_in}
use Rattle.key.proofs.key.Goals as goal

pub returns-in_err-source : goal.returns-in_err-source
returns-in_err-source c =
    let L : Lists = lent c.args.starts.now c.args.continues.now c.args.emoji.now in
    let p = err_from_is_err_and c.from_residual.result c.from_residual.ensures.1 in
    rw (p.1, p.2) (refused_in MAX_PAIRS c.args.text.now L c.args.out.now refl (source_refused MAX_PAIRS c.args.text.now L c.new.ensures c.in_err-source.was))

pub returns-in-Some : goal.returns-in-Some
returns-in-Some c =
    let L : Lists = lent c.args.starts.now c.args.continues.now c.args.emoji.now in
    doubled_in MAX_PAIRS c.args.text.now L c.args.out.now refl (source_fine MAX_PAIRS c.args.text.now L c.new.ensures c.in_ok-source.was) c.double_return.ensures c.in-Some.is

pub hidden_mark-requires : goal.hidden_mark-requires
hidden_mark-requires c =
    let L : Lists = lent c.args.starts.now c.args.continues.now c.args.emoji.now in
    well_in MAX_PAIRS c.args.text.now L c.args.out.now refl (source_fine MAX_PAIRS c.args.text.now L c.new.ensures c.in_ok-source.was)

pub returns-in-Some-hidden_mark : goal.returns-in-Some-hidden_mark
returns-in-Some-hidden_mark c =
    let L : Lists = lent c.args.starts.now c.args.continues.now c.args.emoji.now in
    marked_in MAX_PAIRS c.args.text.now L c.args.out.now refl (source_fine MAX_PAIRS c.args.text.now L c.new.ensures c.in_ok-source.was) c.double_return.ensures c.in_default.is c.hidden_mark.ensures c.in-Some-hidden_mark.is

pub returns : goal.returns
returns c =
    let L : Lists = lent c.args.starts.now c.args.continues.now c.args.emoji.now in
    checked_in MAX_PAIRS c.args.text.now L c.args.out.now refl (source_fine MAX_PAIRS c.args.text.now L c.new.ensures c.in_ok-source.was) c.double_return.ensures c.in_default.is c.hidden_mark.ensures c.in_default-hidden_mark.is
    (rw (source_is MAX_PAIRS c.args.text.now L c.new.ensures c.in_ok-source.was) at c.checked_key.ensures)
