-- `lists_in::survey_records` meets its contract: line by line (Surveying).
use Prim.Native.Nat.{◌-◌}
use lib.ListN.{length}
use Rattle.lists_in.proofs.Surveying.{Surveying}
use Rattle.lists_in.proofs.survey_records.Given as goal

abbrev pub invariant-loop-at : goal.invariant-loop-at
invariant-loop-at l = Surveying l.file l.version l.from l.at l.index l.group l.tallies

abbrev pub decreases-loop-at : goal.decreases-loop-at
decreases-loop-at l = length l.file - l.at
