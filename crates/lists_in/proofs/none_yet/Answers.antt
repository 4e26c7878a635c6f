-- `lists_in::none_yet` meets its contract: an empty list breaks no rule.
use mathlib.Core.Path.{refl}
use Rattle.ranges.specs.Rules.{flaw_from}
use Rattle.lists_in.proofs.none_yet.Goals as goal

pub returns : goal.returns
unfolding flaw_from
returns c = refl
