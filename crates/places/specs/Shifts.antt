-- A place that is counted from another one on.
use Rattle.std.specs.Prelude.{ℕ, ◌+◌}
use Rattle.eaters.specs.Find.{Place, at, nowhere}

-- k places further
abbrev pub shifted : ℕ → Place → Place
shifted k (at j) = at (k + j)
shifted k nowhere = nowhere
