-- `quoted::single_quoted_string` meets its contract. One character and a quote, or the scan (Quotes).
use Rattle.quoted.proofs.Quotes.{single_scan, single_escaped, single_one}
use Rattle.quoted.proofs.single_quoted_string.Goals as goal
use Rattle.quoted.proofs.single_quoted_string.Goals.{else-second-eq39-via-then-second-eq39+else-first-ne92, else-second-eq39-via-else-second-eq39}

pub returns-then-first-ne92 : goal.returns-then-first-ne92
returns-then-first-ne92 c = search single_one

pub returns : goal.returns
returns c = elim c.else-second-eq39.branch [ else-second-eq39-via-then-second-eq39+else-first-ne92 w ↦ search single_escaped | else-second-eq39-via-else-second-eq39 w ↦ search single_scan ]
