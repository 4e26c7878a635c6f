-- Lists that the calls take: none of the three is refused as 3. `limit` is the most pairs of a list.
use Rattle.std.specs.Prelude.{ℕ, ◌≡◌}
use Rattle.refusal.specs.Verdict.{fine}
use Rattle.refusal.specs.Order.{lists_in_order}
use Rattle.ranges.specs.Rules.{list_verdict}
use Rattle.token.specs.Lists.{Lists}

abbrev pub Taken : (limit : ℕ) → Lists → Type 0
Taken limit L = lists_in_order (list_verdict limit 0 L.starts) (list_verdict limit 1 L.continues) (list_verdict limit 2 L.emoji) ≡ fine
