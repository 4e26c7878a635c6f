-- `lexer::next_line` meets its contract. The bytes from the token's start on, counted (Stepping).
use Rattle.lexer.proofs.Stepping.{line_past, line_narrow}
use Rattle.lexer.proofs.next_line.Goals as goal

pub overflow_add-result : goal.overflow_add-result
overflow_add-result c = search line_narrow

pub returns : goal.returns
returns c = search line_past
