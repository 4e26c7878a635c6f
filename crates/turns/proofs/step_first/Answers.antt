-- `turns::step_first` meets its contract. By what begins with the character (Modes).
use mathlib.Core.Path.{refl}
use Rattle.turns.proofs.Modes.{begins_as}
use Rattle.turns.proofs.step_first.Goals as goal

pub returns : goal.returns
returns c = begins_as c.args.lists.now _ _ _ c.begins-first.ensures (λ st p. refl)
