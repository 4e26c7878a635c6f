-- `words::after_quote_r` meets its contract. The rule, by the next two characters (Names).
use Rattle.words.proofs.Names.{no_hash, no_start, raw_found}
use Rattle.words.proofs.after_quote_r.Goals.{else-first-eq35-via-then-first-eq35+else-is_start, else-first-eq35-via-else-first-eq35}
use Rattle.words.proofs.after_quote_r.Goals as goal

pub returns-then-is_start : goal.returns-then-is_start
returns-then-is_start c = rw c.plain.ensures (search raw_found)

pub returns : goal.returns
returns c = elim c.else-first-eq35.branch [ else-first-eq35-via-then-first-eq35+else-is_start w ↦ search no_start | else-first-eq35-via-else-first-eq35 w ↦ search no_hash ]
