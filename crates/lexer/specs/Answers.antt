-- What the one-token call answers (document 01, "When the build says no" and the paragraph on the one-token call). `limit` is the most pairs of a list.
use Rattle.std.specs.Prelude.{ℕ, List, Bool, Result, Ok, Err}
use Rattle.basics.specs.Choice.{pick}
use Rattle.refusal.specs.declared.Numbers.{Numbers}
use Rattle.refusal.specs.declared.PlaceRefusal.{PlaceRefusal}
use Rattle.refusal.specs.declared.PlaceRefusal.TheVariants.{Position, Shared}
use Rattle.refusal.specs.Verdict.{Verdict}
use Rattle.refusal.specs.Numbers.{numbers, place_numbers}
use Rattle.refusal.specs.Order.{in_order, lists_in_order, refused_or}
use Rattle.text.specs.Position.{on_boundary}
use Rattle.text.specs.Verdicts.{too_long, utf8_verdict}
use Rattle.ranges.specs.Rules.{list_verdict}
use Rattle.token.specs.Lists.{Lists}
use Rattle.lexer.specs.declared.Scan.{Scan}
use Rattle.lexer.specs.Scans.{scan_at}

-- 1, then 3 for the three lists, then 2
unfoldable pub token_verdict : (limit : ℕ) (s : List ℕ) → Lists → Verdict
token_verdict limit s L =
    in_order (too_long s)
    (lists_in_order (list_verdict limit 0 L.starts) (list_verdict limit 1 L.continues) (list_verdict limit 2 L.emoji))
    (utf8_verdict s)

-- then 4: the position is past the end or inside a character; else the token there
unfoldable pub given_at : Lists → (s : List ℕ) (at : ℕ) (on : Bool) → Result Scan PlaceRefusal
given_at L s at on = pick (on_boundary s at) (Ok (scan_at L s at on)) (Err (Position at))

-- THE ANSWER
abbrev pub one_token : (limit : ℕ) (s : List ℕ) → Lists → (at : ℕ) (on : Bool) → Result Scan PlaceRefusal
one_token limit s L at on = refused_or (λ bad. Err (Shared bad)) (token_verdict limit s L) (given_at L s at on)

-- by number: done is 0, with the position past the token, and 1 where frontmatter is on there
abbrev pub token_numbers : Result Scan PlaceRefusal → Numbers
token_numbers (Ok scan) = numbers 0 scan.next (pick scan.on 1 0)
token_numbers (Err refusal) = place_numbers refusal
