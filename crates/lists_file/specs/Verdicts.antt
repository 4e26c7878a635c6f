-- Refusal 3 for the three lists of a file, as document 01 has it ("When the build says no"). `limit` is the most pairs of a list.
use Rattle.std.specs.Prelude.{ℕ}
use Rattle.refusal.specs.Verdict.{Verdict}
use Rattle.refusal.specs.Order.{lists_in_order}
use Rattle.ranges.specs.Rules.{list_verdict}
use Rattle.token.specs.Lists.{Lists}

abbrev pub lists_verdict : (limit : ℕ) → Lists → Verdict
lists_verdict limit L = lists_in_order (list_verdict limit 0 L.starts) (list_verdict limit 1 L.continues) (list_verdict limit 2 L.emoji)
