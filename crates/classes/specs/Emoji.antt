-- 000's test of an emoji character, which it asks of characters past ASCII alone: what the lent list holds. Below 0x80 nothing is emoji.
use Rattle.std.specs.Prelude.{ℕ, List, Bool, false, ltb}
use Rattle.basics.specs.Choice.{pick}
use Rattle.ranges.specs.Search.{in_pairs}

unfoldable pub emoji_char : (emoji : List ℕ) → ℕ → Bool
emoji_char emoji c = pick (ltb c 0x80) false (in_pairs c emoji)
