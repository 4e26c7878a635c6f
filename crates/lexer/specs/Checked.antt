-- A text that was checked, with lists that were checked: what a step asks, and every loop over a text.
use Rattle.std.specs.Prelude.{ℕ, ◌≤◌, List, length}
use Rattle.text.specs.Chars.{WellFormed}
use Rattle.ranges.specs.Rules.{Good}
use Rattle.token.specs.Lists.{Lists}

pub record Checked (s : List ℕ) (L : Lists) : Type 0 where
  pub well : WellFormed s
  pub fits : length s ≤ 4294967295
  pub starts : Good L.starts
  pub continues : Good L.continues
  pub emoji : Good L.emoji
