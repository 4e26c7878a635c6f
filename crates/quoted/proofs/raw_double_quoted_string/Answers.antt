-- `quoted::raw_double_quoted_string` meets its contract. The hashes, the quote, the search, and whether they are counted (Opens).
use Rattle.std.proofs.Common.{rules}
use Rattle.quoted.proofs.Opens.{bad_start, raw_ran}
use Rattle.quoted.proofs.raw_double_quoted_string.Goals as goal
use Rattle.quoted.proofs.raw_double_quoted_string.Goals.{then-ended+then-hashes-lt256, else-ended}

pub returns-then-first-ne34 : goal.returns-then-first-ne34
returns-then-first-ne34 c = search bad_start

pub returns : goal.returns
returns c = raw_ran c.eat_repeated-hashes.ensures c.first.ensures c.bump-2.ensures c.if-first-ne34.false c.raw_rest-ended.ensures (elim c.if-ended.branch [ then-ended+then-hashes-lt256 w ↦ search rules | else-ended w ↦ search rules ])
