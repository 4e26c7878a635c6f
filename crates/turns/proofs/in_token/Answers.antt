-- `turns::in_token` meets its contract. In a number and in quotes, with the lists lent (Modes).
use Rattle.turns.proofs.Modes.{token_number, token_quoted}
use Rattle.turns.proofs.in_token.Goals as goal

pub returns-in-GotZero : goal.returns-in-GotZero
returns-in-GotZero c = search token_number

pub returns-in_default : goal.returns-in_default
returns-in_default c = search token_quoted
