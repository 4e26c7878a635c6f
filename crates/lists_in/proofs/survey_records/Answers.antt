use Rattle.std.specs.Prelude.{◌≡◌, None, Some, Err}
use mathlib.Core.Path.{◌∙◌}
use borrow.Author.Rules.{rules}
use native.Mathlib.Omega.{arith}
use Rattle.lists_in.proofs.Surveying.{survey_starts, survey_bad, survey_back, survey_room, survey_next, survey_on, survey_ends}
use Rattle.lists_in.proofs.survey_records.Goals as goal

pub loop-at-init : goal.loop-at-init
loop-at-init c = search survey_starts

pub returns-in_err-entry : goal.returns-in_err-entry
returns-in_err-entry c =
    let none : c.line_at.result ≡ None = search rules in
    let told : c.from_residual.result ≡ Err c.loop-at.index = search rules in
    told ∙ survey_bad c.loop-at.invariant c.loop-at-test.true c.line_at.ensures none

pub returns-then-entry-group : goal.returns-then-entry-group
returns-then-entry-group c =
    let some : c.line_at.result ≡ Some (c.in_ok-entry.entry, c.in_ok-entry.next) = search rules in
    survey_back c.loop-at.invariant c.loop-at-test.true c.line_at.ensures some c.if-entry-group.true

pub tallies_on-tallies-requires : goal.tallies_on-tallies-requires
tallies_on-tallies-requires c =
    let some : c.line_at.result ≡ Some (c.in_ok-entry.entry, c.in_ok-entry.next) = search rules in
    survey_room c.loop-at.invariant c.loop-at-test.true c.line_at.ensures some (omega arith)

pub loop-at-smaller : goal.loop-at-smaller
loop-at-smaller c =
    let some : c.line_at.result ≡ Some (c.in_ok-entry.entry, c.in_ok-entry.next) = search rules in
    let n = survey_next c.loop-at.invariant c.loop-at-test.true c.line_at.ensures some in
    omega (arith, n.past, n.within)

pub loop-at-preserved : goal.loop-at-preserved
loop-at-preserved c =
    let some : c.line_at.result ≡ Some (c.in_ok-entry.entry, c.in_ok-entry.next) = search rules in
    survey_on c.loop-at.invariant c.loop-at-test.true c.line_at.ensures some c.if-entry-group.false c.tallies_on-tallies.ensures

pub returns : goal.returns
returns c = search survey_ends
