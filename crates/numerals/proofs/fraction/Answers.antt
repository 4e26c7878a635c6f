-- `numerals::fraction` meets its contract. The rule, by the next two characters (Rules).
use Rattle.numerals.proofs.Rules.{no_point, range_in, method_in, point_in}
use Rattle.numerals.proofs.fraction.Goals.{then-d-eq46-via-then-d-eq46, then-d-eq46-via-else-d-eq46+then-is_start}
use Rattle.numerals.proofs.fraction.Goals as goal

pub returns-then-first-ne46 : goal.returns-then-first-ne46
returns-then-first-ne46 c = search no_point

pub returns-then-d-eq46 : goal.returns-then-d-eq46
returns-then-d-eq46 c = elim c.then-d-eq46.branch [ then-d-eq46-via-then-d-eq46 w ↦ search range_in | then-d-eq46-via-else-d-eq46+then-is_start w ↦ search method_in ]

pub returns : goal.returns
returns c = search point_in
