-- `lists_out::record_bytes` meets its contract. There is room for the line of any record (Lines).
use Rattle.lists_out.proofs.Lines.{record_short}
use Rattle.lists_out.proofs.record_bytes.Goals as goal

pub put_record-requires : goal.put_record-requires
put_record-requires c = search record_short
