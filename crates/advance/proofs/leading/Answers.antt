-- `advance::leading` meets its contract. By the last character and what follows (Fronts).
use Rattle.advance.proofs.Fronts.{newline_in, fence_in, blanks_in}
use Rattle.advance.proofs.leading.Goals.{else-blanks-ne10-via-then-blanks-ne10+else-at_dashes, else-blanks-ne10-via-else-blanks-ne10}
use Rattle.advance.proofs.leading.Goals as goal

pub returns-then-at_dashes : goal.returns-then-at_dashes
returns-then-at_dashes c = search fence_in

pub returns : goal.returns
returns c = elim c.else-blanks-ne10.branch [ else-blanks-ne10-via-then-blanks-ne10+else-at_dashes w ↦ search blanks_in | else-blanks-ne10-via-else-blanks-ne10 w ↦ search newline_in ]
