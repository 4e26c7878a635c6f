-- `lists_out::write_lists` meets its contract. What the check lets through, and the room (Calls).
use Rattle.lists_out.proofs.Calls.{all_short, room_in, written_in}
use Rattle.lists_out.proofs.write_lists.Goals as goal

pub file_bytes-bytes-requires : goal.file_bytes-bytes-requires
file_bytes-bytes-requires c = all_short c.args.version _ _ _ c.args.out.now c.check_list-start.ensures c.check_list-goes_on.ensures c.check_list-last.ensures c.lists_in_order.ensures c.in_ok-lists_in_order.was

pub returns-then-out-bytes : goal.returns-then-out-bytes
returns-then-out-bytes c = room_in _ _ _ _ _ c.check_list-start.ensures c.check_list-goes_on.ensures c.check_list-last.ensures c.lists_in_order.ensures c.in_ok-lists_in_order.was c.file_bytes-bytes.ensures c.if-out-bytes.true

pub returns : goal.returns
returns c = written_in _ _ _ _ _ c.check_list-start.ensures c.check_list-goes_on.ensures c.check_list-last.ensures c.lists_in_order.ensures c.in_ok-lists_in_order.was c.file_bytes-bytes.ensures c.if-out-bytes.false c.put_file.ensures
