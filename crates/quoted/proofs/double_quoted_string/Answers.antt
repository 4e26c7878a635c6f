-- `quoted::double_quoted_string` meets its contract. A turn, and the end, by the laws of Quotes.
use Rattle.quoted.proofs.Quotes.{over_in, double_close, double_other, double_escaped, double_lone}
use Rattle.cursor.proofs.Moves.{fewer_2}
use Rattle.cursor.proofs.Loops.{inside_start}
use Rattle.quoted.proofs.double_quoted_string.Goals as goal

pub loop-c-init : goal.loop-c-init
loop-c-init c = inside_start _ _ _

pub returns : goal.returns
returns c = search over_in

pub returns-in-34 : goal.returns-in-34
returns-in-34 c = search double_close

pub loop-c-preserved : goal.loop-c-preserved
loop-c-preserved c = search double_other

pub loop-c-smaller-in-92-first : goal.loop-c-smaller-in-92-first
loop-c-smaller-in-92-first c = search fewer_2

pub loop-c-preserved-in-92-first : goal.loop-c-preserved-in-92-first
loop-c-preserved-in-92-first c = search double_escaped

pub loop-c-preserved-in_default-first : goal.loop-c-preserved-in_default-first
loop-c-preserved-in_default-first c = search double_lone
