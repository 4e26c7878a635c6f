-- `engine::end_of` meets its contract. Mode by mode (Ends).
use Rattle.engine.proofs.Ends.{end_one, end_two, end_three, end_broken, end_quiet}
use borrow.Enum.Refused.{opened}
use Rattle.engine.proofs.end_of.Goals as goal

pub returns-in-OneSlash : goal.returns-in-OneSlash
returns-in-OneSlash c = search end_one

pub returns-in-TwoSlashes : goal.returns-in-TwoSlashes
returns-in-TwoSlashes c = search end_two

pub returns-in-ThreeSlashes : goal.returns-in-ThreeSlashes
returns-in-ThreeSlashes c = search end_three

pub returns-in-SlashStar : goal.returns-in-SlashStar
returns-in-SlashStar c = search end_broken

pub returns-in_default : goal.returns-in_default
returns-in_default c = search (end_quiet, opened)
