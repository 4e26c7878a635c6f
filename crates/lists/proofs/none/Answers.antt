-- `lists::none` meets its contract. An empty list breaks no rule (Laws of `ranges`).
use Rattle.ranges.proofs.Laws.{nothing_good}
use Rattle.lists.proofs.none.Goals as goal

pub new-requires : goal.new-requires
new-requires c = (nothing_good, (nothing_good, nothing_good))
