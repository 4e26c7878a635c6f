-- `engine::lay_step` meets its contract. What was held back, then what is shown (Lays).
use Rattle.engine.proofs.Lays.{held_room, itself_room, itself_laid, line_room, line_laid, shown_none}
use Rattle.engine.proofs.lay_step.Goals as goal

pub lay_before-k-requires : goal.lay_before-k-requires
lay_before-k-requires c = search held_room

pub lay-requires : goal.lay-requires
lay-requires c = search itself_room

pub lay-requires-in-Line : goal.lay-requires-in-Line
lay-requires-in-Line c = search line_room

pub returns-in-Itself : goal.returns-in-Itself
returns-in-Itself c = search itself_laid

pub returns-in-Line : goal.returns-in-Line
returns-in-Line c = search line_laid

pub returns-in-None : goal.returns-in-None
returns-in-None c = search shown_none
