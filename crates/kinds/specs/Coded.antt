-- What a function that makes a code promises: the code, and that it is small, so that sums of codes fit.
use Rattle.std.specs.Prelude.{ℕ, ◌≤◌, ◌≡◌}

pub record Coded (most code r : ℕ) : Type 0 where
  pub same : r ≡ code
  pub small : r ≤ most
