use Rattle.shebang.proofs.Follows.{sought_over, token_less, literal_stop, other_stop, trivia_on}
use Rattle.shebang.proofs.bracket_follows.Goals as goal

pub returns : goal.returns
returns c = search sought_over

pub returns-in_default-kind : goal.returns-in_default-kind
returns-in_default-kind c = search literal_stop

pub returns-then-not-is_trivia : goal.returns-then-not-is_trivia
returns-then-not-is_trivia c = search other_stop

pub loop-c-smaller : goal.loop-c-smaller
loop-c-smaller c = search token_less

pub loop-c-preserved : goal.loop-c-preserved
loop-c-preserved c = search trivia_on
