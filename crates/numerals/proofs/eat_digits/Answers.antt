use Rattle.numerals.proofs.Counting.{count_none, count_digit, count_underscore, count_off, count_over}
use Rattle.cursor.proofs.Moves.{fewer_1}
use Rattle.numerals.proofs.eat_digits.Goals as goal

pub loop-c-init : goal.loop-c-init
loop-c-init c = count_none _ _ _

pub loop-c-smaller-then-is_digit_of : goal.loop-c-smaller-then-is_digit_of
loop-c-smaller-then-is_digit_of c = search fewer_1

pub loop-c-preserved-then-is_digit_of : goal.loop-c-preserved-then-is_digit_of
loop-c-preserved-then-is_digit_of c = search count_digit

pub loop-c-smaller : goal.loop-c-smaller
loop-c-smaller c = search fewer_1

pub loop-c-preserved : goal.loop-c-preserved
loop-c-preserved c = search count_underscore

pub returns-then-c-ne95 : goal.returns-then-c-ne95
returns-then-c-ne95 c = search count_off

pub returns-in_default : goal.returns-in_default
returns-in_default c = search count_over
