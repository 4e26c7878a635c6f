-- Two choices of lists that hold the same points, into whatever pairs these are cut.
use Rattle.std.specs.Prelude.{ℕ, ◌≡◌}
use Rattle.ranges.specs.Search.{in_pairs}
use Rattle.token.specs.Lists.{Lists}

pub record Alike (L M : Lists) : Type 0 where
  pub starts : (c : ℕ) → in_pairs c L.starts ≡ in_pairs c M.starts
  pub continues : (c : ℕ) → in_pairs c L.continues ≡ in_pairs c M.continues
  pub emoji : (c : ℕ) → in_pairs c L.emoji ≡ in_pairs c M.emoji
