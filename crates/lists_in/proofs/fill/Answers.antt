use Rattle.lists_in.proofs.Filling.{fill_bad, fill_on, fill_ends}
use Rattle.lists_in.proofs.fill.Goals as goal

pub returns-in_default : goal.returns-in_default
returns-in_default c = fill_bad c.loop-k.invariant c.loop-k-test.true c.requires.room c.line_at.ensures c.in_default.is

pub loop-k-preserved : goal.loop-k-preserved
loop-k-preserved c = fill_on c.loop-k.invariant c.loop-k-test.true c.requires.room c.line_at.ensures c.in-Some.is

pub returns : goal.returns
returns c = search fill_ends
