-- `stored::listing::put_records` meets its contract. Each turn puts one record more.
use Rattle.std.proofs.Common.{◌≡◌, ◌≤◌, length}
use Rattle.stored.proofs.listing.put_records.Given as goal

abbrev pub invariant-loop-token : goal.invariant-loop-token
invariant-loop-token l = (l.at ≤ length l.out) × (length l.out ≡ length l.initial.out)
