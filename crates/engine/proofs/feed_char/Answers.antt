-- `engine::feed_char` meets its contract. What the step says, laid (Feeds).
use Rattle.engine.proofs.Feeds.{char_steps, char_lays, char_fed}
use Rattle.engine.proofs.feed_char.Goals as goal

pub step-stepped-requires : goal.step-stepped-requires
step-stepped-requires c = search char_steps

pub lay_step-past-requires : goal.lay_step-past-requires
lay_step-past-requires c = search char_lays

pub returns : goal.returns
returns c = search char_fed
