-- `strings::guarded_end` meets its contract. Hashes, and an identifier after them (Strings).
use Rattle.strings.proofs.Strings.{end_in}
use Rattle.strings.proofs.guarded_end.Goals as goal

pub returns : goal.returns
returns c = search end_in
