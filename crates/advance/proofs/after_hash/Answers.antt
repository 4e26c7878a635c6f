-- `advance::after_hash` meets its contract. The prefix of a guarded string, or a hash alone (Arms).
use Rattle.advance.proofs.Arms.{hash_mark, hash_alone}
use Rattle.advance.proofs.after_hash.Goals as goal

pub returns-then-is_hash_or_quote : goal.returns-then-is_hash_or_quote
returns-then-is_hash_or_quote c = search hash_mark

pub returns : goal.returns
returns c = search hash_alone
