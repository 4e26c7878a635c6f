-- `strings::raw_guess` meets its contract. The loop's invariant: the guess from here is the guess from the start (Guesses).
-- The measure is the number of characters left.
use Rattle.strings.proofs.Guesses.{Guessing}
use Rattle.cursor.specs.Cursors.{rest}
use lib.ListN.{length}
use Rattle.strings.proofs.raw_guess.Given as goal

abbrev pub invariant-loop-c : goal.invariant-loop-c
invariant-loop-c l = Guessing l.text l.initial.cur l.cur l.best

abbrev pub decreases-loop-c : goal.decreases-loop-c
decreases-loop-c l = length (rest l.text l.cur)
