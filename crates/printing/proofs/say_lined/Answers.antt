use Rattle.std.proofs.Common.{false}
use Rattle.printing.proofs.Parts.{lined_none, saying_less, saying_on, saying_more, saying_end}
use Rattle.printing.proofs.say_lined.Goals as goal

pub loop-scan-init : goal.loop-scan-init
loop-scan-init g c = lined_none {on = false} c.text-text.ensures.checked c.filled-out.ensures c.start-scan.ensures.scan

pub loop-scan-smaller : goal.loop-scan-smaller
loop-scan-smaller g c = saying_less c.loop-scan.invariant.0 c.step-scan.ensures.token (rw c.text-text.ensures.bytes at c.loop-scan-test.true)

pub loop-scan-preserved : goal.loop-scan-preserved
loop-scan-preserved g c =
    let L = c.args.source.now.lists in
    let m = c.loop-scan.invariant.0 in
    let e = c.step-scan.ensures.token in
    let l = rw c.text-text.ensures.bytes at c.loop-scan-test.true in
    (saying_on {L = L} m e c.put_lined-used.ensures, saying_more {L = L} m e _ _ _ _ _ _ _ l c.loop-scan.invariant.1 c.in_ok-free.ensures.bytes c.put_lined-used.ensures)

pub returns : goal.returns
returns g c = saying_end c.args.source.now.lists c.args.source.now.text c.loop-scan.out c.loop-scan.used c.loop-scan.scan c.write_all.result _ _ _ _ (rw c.text-text.ensures.bytes at c.loop-scan-test.false) c.loop-scan.invariant.1 c.write_all.ensures.bytes
