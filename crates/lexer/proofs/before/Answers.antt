-- `lexer::before` meets its contract. The bytes before the position, counted (Stepping).
use Rattle.lexer.proofs.Stepping.{front_fits, front_long, before_at}
use Rattle.lexer.proofs.before.Goals as goal

pub slice_bounds-count-end : goal.slice_bounds-count-end
slice_bounds-count-end c = search front_long

pub count-requires : goal.count-requires
count-requires c = search front_fits

pub returns : goal.returns
returns c = search before_at
