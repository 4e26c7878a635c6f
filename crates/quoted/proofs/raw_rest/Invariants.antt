-- `quoted::raw_rest` meets its contract. `Seeking`: from here the search finds what it finds from the start. Hashes after a quote that does not close hold no quote (Closes).
use Rattle.quoted.proofs.Closes.{Seeking}
use Rattle.cursor.specs.Cursors.{rest}
use lib.ListN.{length}
use Rattle.quoted.proofs.raw_rest.Given as goal

abbrev pub invariant-loop-c : goal.invariant-loop-c
invariant-loop-c l = Seeking l.count l.text l.initial.cur l.cur

abbrev pub decreases-loop-c : goal.decreases-loop-c
decreases-loop-c l = length (rest l.text l.cur)
