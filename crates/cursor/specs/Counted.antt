-- What counting the characters x at a cursor promises: all of them are passed, and their number is said.
use Rattle.std.specs.Prelude.{ℕ, ◌≡◌, List, length}
use Rattle.eaters.specs.Eat.{take_while, while}
use Rattle.token.specs.Names.{is}
use Rattle.cursor.specs.declared.Cursor.{Cursor}
use Rattle.cursor.specs.declared.Repeated.{Repeated}
use Rattle.cursor.specs.Cursors.{rest}
use Rattle.cursor.specs.Moved.{Moved}
use Rattle.cursor.specs.Ran.{left}

pub record Counted (x : ℕ) (s : List ℕ) (from : Cursor) (r : Repeated) : Type 0 where
  pub moved : Moved s from r.next (left (while (is x)) (rest s from))
  pub count : r.count ≡ length (take_while (is x) (rest s from))
