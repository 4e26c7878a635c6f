-- `quoted::single_rest` meets its contract. A turn, and the end, by the laws of Quotes.
use Rattle.quoted.proofs.Quotes.{over_in, single_close, single_slash, single_stops, single_newline, single_escape, single_other}
use Rattle.cursor.proofs.Moves.{fewer_2}
use Rattle.cursor.proofs.Loops.{inside_start}
use Rattle.quoted.proofs.single_rest.Goals as goal

pub loop-c-init : goal.loop-c-init
loop-c-init c = inside_start _ _ _

pub loop-c-smaller-in-92-1 : goal.loop-c-smaller-in-92-1
loop-c-smaller-in-92-1 c = search fewer_2

pub loop-c-preserved-in-92-1 : goal.loop-c-preserved-in-92-1
loop-c-preserved-in-92-1 c = search single_escape

pub loop-c-preserved : goal.loop-c-preserved
loop-c-preserved c = search single_other

pub returns-in_default : goal.returns-in_default
returns-in_default c = search over_in

pub returns-in-39 : goal.returns-in-39
returns-in-39 c = search single_close

pub returns-in-47 : goal.returns-in-47
returns-in-47 c = search single_slash

pub returns-in-10 : goal.returns-in-10
returns-in-10 c = search single_stops

pub loop-c-preserved-in_default-c : goal.loop-c-preserved-in_default-c
loop-c-preserved-in_default-c c = search single_newline
