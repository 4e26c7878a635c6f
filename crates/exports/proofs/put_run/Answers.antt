use mathlib.Core.Path.{refl}
use native.Mathlib.Omega.{arith}
use Rattle.lexer.proofs.Walks.{before_lined}
use Rattle.exports.proofs.Runs.{going_within, running_none, running_fits, running_on, running_less, ran_full, ran_over}
use Rattle.exports.proofs.put_run.Goals as goal

pub before-scan-requires : goal.before-scan-requires
before-scan-requires c = rw c.text-text.ensures.bytes (going_within c.args.source.now.text c.args.at c.requires, c.text-text.ensures.checked.fits)

pub loop-done-init : goal.loop-done-init
loop-done-init c =
    let e = rw c.text-text.ensures.bytes at c.before-scan.ensures in
    record {
      running = running_none c.requires (omega arith) e (before_lined {on = c.args.on} c.text-text.ensures.checked.fits (going_within c.args.source.now.text c.args.at c.requires) e);
      slots_used = refl;
    }

pub step-scan-requires : goal.step-scan-requires
step-scan-requires c = c.loop-done.invariant.running.lined

pub put_token-used-requires : goal.put_token-used-requires
put_token-used-requires c = running_fits c.loop-done.invariant.running c.text-text.ensures.checked (omega arith) (rw c.text-text.ensures.bytes at c.if-text-scan.false) c.step-scan.ensures.token

pub loop-done-preserved : goal.loop-done-preserved
loop-done-preserved c =
    record {
      running = running_less (omega arith) (running_on c.loop-done.invariant.running c.text-text.ensures.checked (omega arith) (rw c.text-text.ensures.bytes at c.if-text-scan.false) c.step-scan.ensures.token c.step-scan.ensures.lined c.put_token-used.ensures);
      slots_used = omega (arith, c.put_token-used.ensures.next, c.loop-done.invariant.slots_used);
    }

pub returns-then-text-scan : goal.returns-then-text-scan
returns-then-text-scan c = ran_over c.loop-done.invariant.running (rw c.text-text.ensures.bytes at c.if-text-scan.true) c.loop-done.invariant.slots_used c.ran_out.ensures

pub returns : goal.returns
returns c = ran_full c.loop-done.invariant.running (omega arith) (omega (arith, c.loop-done.invariant.slots_used)) c.ran_out-2.ensures
