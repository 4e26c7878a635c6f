-- `numerals::eat_digits` meets its contract. A run of digits and underscores (the laws of `Counting`).
use Rattle.numerals.proofs.Counting.{Counting}
use Rattle.cursor.specs.Cursors.{rest}
use Rattle.numerals.specs.Counts.{digit_of}
use lib.ListN.{length}
use Rattle.numerals.proofs.eat_digits.Given as goal

abbrev pub invariant-loop-c : goal.invariant-loop-c
invariant-loop-c l = Counting (digit_of l.base) l.text l.initial.cur l.cur l.some

abbrev pub decreases-loop-c : goal.decreases-loop-c
decreases-loop-c l = length (rest l.text l.cur)
