-- What eating on while a closure says so promises, for every predicate that the closure's answers are.
use Rattle.std.specs.Prelude.{ℕ, ◌<◌, ◌≡◌, List, Bool}
use Rattle.eaters.specs.Eat.{while}
use Rattle.cursor.specs.declared.Cursor.{Cursor}
use Rattle.cursor.specs.Cursors.{rest}
use Rattle.cursor.specs.Moved.{Moved}
use Rattle.cursor.specs.Ran.{left}

-- each answer at a CodePoint, of all that `post` allows, is that of p
abbrev pub Says : (post : ℕ → Bool → Type 0) → (p : ℕ → Bool) → Type 0
Says post p = (c : ℕ) (b : Bool) → c < 4294967296 → post c b → b ≡ p c

abbrev pub AteWhile : (post : ℕ → Bool → Type 0) → List ℕ → Cursor → Cursor → Type 0
AteWhile post s from to = (p : ℕ → Bool) → Says post p → Moved s from to (left (while p) (rest s from))
