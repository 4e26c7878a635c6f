-- What guarded_double_quoted_string answers at a position: 1, then 3 for its two lists, then 2, then 4; else what is found there.
use Rattle.std.specs.Prelude.{ℕ, ◌+◌, List, [], take, drop, Option, None, Some, Result, Ok, Err}
use Rattle.basics.specs.Choice.{pick}
use Rattle.refusal.specs.declared.Numbers.{Numbers}
use Rattle.refusal.specs.declared.PlaceRefusal.{PlaceRefusal}
use Rattle.refusal.specs.declared.PlaceRefusal.TheVariants.{Position, Shared}
use Rattle.refusal.specs.Numbers.{numbers, place_numbers}
use Rattle.refusal.specs.Order.{refused_or}
use Rattle.text.specs.Chars.{chars, size}
use Rattle.text.specs.Position.{on_boundary}
use Rattle.classes.specs.Answers.{ident_verdict}
use Rattle.token.specs.declared.GuardedStr.{GuardedStr}
use Rattle.token.specs.Lists.{Lists, lent}
use Rattle.token.specs.Guarded.{guarded_string}
use Rattle.strings.specs.declared.GuardedAt.{GuardedAt}

-- what is found at a position, and the position past all that was taken
unfoldable pub guarded_at : Lists → (s : List ℕ) (at : ℕ) → GuardedAt
guarded_at L s at =
    let cs = chars (drop at s) in
    let m = guarded_string L cs in
    record { found = m.said; next = at + size (take m.took cs) }

-- the checks are is_ident's: the same two lists
abbrev pub guarded_answer : (limit : ℕ) (s starts continues : List ℕ) (at : ℕ) → Result GuardedAt PlaceRefusal
guarded_answer limit s starts continues at =
    refused_or (λ bad. Err (Shared bad)) (ident_verdict limit s starts continues)
    (pick (on_boundary s at) (Ok (guarded_at (lent starts continues []) s at)) (Err (Position at)))

-- by number: done is 0, with the position where the cursor then stands, and 1 where a string is found
abbrev pub is_found : Option GuardedStr → ℕ
is_found (Some string) = 1
is_found None = 0

abbrev pub guarded_numbers : Result GuardedAt PlaceRefusal → Numbers
guarded_numbers (Ok x) = numbers 0 x.next (is_found x.found)
guarded_numbers (Err refusal) = place_numbers refusal
