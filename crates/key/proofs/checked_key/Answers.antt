-- `key::checked_key` meets its contract. A broken token, and the room (Calls).
use Rattle.std.proofs.lemmas.Result.{err_from_is_err_and}
use Rattle.key.proofs.Calls.{measure_ready, broken_in, room_in, write_ready, keyed_in, again_kept}
use Rattle.key.proofs.checked_key.Goals as goal

pub whole-requires : goal.whole-requires
whole-requires c = rw (c.text-text.ensures.bytes, c.lists-lists.ensures) (measure_ready c.args.source.now.text c.args.source.now.lists c.args.out.now c.text-text.ensures.checked)

pub returns-in_err-bytes : goal.returns-in_err-bytes
returns-in_err-bytes c =
    let p = err_from_is_err_and c.from_residual.result c.from_residual.ensures.1 in
    rw (p.1, p.2) (broken_in c.args.source.now.text c.args.source.now.lists c.args.out.now c.text-text.ensures.checked (rw (c.text-text.ensures.bytes, c.lists-lists.ensures) at c.whole.ensures) c.in_err-bytes.was)

pub returns-then-out-bytes : goal.returns-then-out-bytes
returns-then-out-bytes c = room_in c.args.source.now.text c.args.source.now.lists c.args.out.now c.text-text.ensures.checked (rw (c.text-text.ensures.bytes, c.lists-lists.ensures) at c.whole.ensures) c.in_ok-bytes.was c.if-out-bytes.true

pub whole-requires-2 : goal.whole-requires-2
whole-requires-2 c =
    rw (c.text-text.ensures.bytes, c.lists-lists.ensures)
    (write_ready c.args.source.now.text c.args.source.now.lists c.args.out.now c.text-text.ensures.checked (rw (c.text-text.ensures.bytes, c.lists-lists.ensures) at c.whole.ensures) c.in_ok-bytes.was c.if-out-bytes.false)

pub returns-in_err-whole : goal.returns-in_err-whole
returns-in_err-whole c =
    again_kept c.args.source.now.text c.args.source.now.lists c.args.out.now c.text-text.ensures.checked (rw (c.text-text.ensures.bytes, c.lists-lists.ensures) at c.whole.ensures) c.in_ok-bytes.was c.if-out-bytes.false (rw (c.text-text.ensures.bytes, c.lists-lists.ensures) at c.whole-2.ensures) c.in_err-whole.was

pub returns : goal.returns
returns c =
    keyed_in c.args.source.now.text c.args.source.now.lists c.args.out.now c.text-text.ensures.checked (rw (c.text-text.ensures.bytes, c.lists-lists.ensures) at c.whole.ensures) c.in_ok-bytes.was c.if-out-bytes.false (rw (c.text-text.ensures.bytes, c.lists-lists.ensures) at c.whole-2.ensures) c.in_ok-whole.was
