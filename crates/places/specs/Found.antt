-- A place as the code says it.
use Rattle.std.specs.Prelude.{ℕ, Option, None, Some}
use Rattle.eaters.specs.Find.{Place, at, nowhere}

abbrev pub found_at : Place → Option ℕ
found_at (at k) = Some k
found_at nowhere = None

-- and back
abbrev pub place_of : Option ℕ → Place
place_of (Some k) = at k
place_of None = nowhere
