-- `turns::step` meets its contract. Where a token begins with the character (Modes).
use Rattle.turns.proofs.Modes.{step_ends}
use Rattle.turns.proofs.step.Goals as goal

pub returns-in-Ends : goal.returns-in-Ends
returns-in-Ends c = search step_ends
