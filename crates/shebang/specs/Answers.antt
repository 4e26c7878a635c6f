-- What strip_shebang answers: 1, then 2; else where the shebang ends, if there is one.
use Rattle.std.specs.Prelude.{ℕ, ◌≡◌, List, Option, None, Some, Result, Ok, Err}
use Rattle.refusal.specs.declared.Numbers.{Numbers}
use Rattle.refusal.specs.Numbers.{numbers, bad_numbers}
use Rattle.refusal.specs.Order.{refused_or}
use Rattle.eaters.specs.Find.{Place, at, nowhere}
use Rattle.text.specs.Chars.{chars}
use Rattle.text.specs.Verdicts.{text_verdict}
use Rattle.token.specs.Lists.{Lists}
use Rattle.token.specs.Shebang.{shebang}
use Rattle.refusal.specs.declared.Bad.{Bad}

abbrev pub shebang_at : Place → Option ℕ
shebang_at (at n) = Some n
shebang_at nowhere = None

-- where the shebang of a text that was checked ends: whatever the lists
pub record ShebangEnds (s : List ℕ) (r : Option ℕ) : Type 0 where
  pub place : (L : Lists) → r ≡ shebang_at (shebang L (chars s))

abbrev pub shebang_answer : Lists → (s : List ℕ) → Result (Option ℕ) Bad
shebang_answer L s = refused_or Err (text_verdict s) (Ok (shebang_at (shebang L (chars s))))

-- the call's promise: whatever the lists
pub record Stripped (s : List ℕ) (r : Result (Option ℕ) Bad) : Type 0 where
  pub answer : (L : Lists) → r ≡ shebang_answer L s

-- by number: done is 0, with the place where the shebang ends, which is at least 2, or 0 where there is none
abbrev pub shebang_numbers : Result (Option ℕ) Bad → Numbers
shebang_numbers (Ok (Some n)) = numbers 0 n 0
shebang_numbers (Ok None) = numbers 0 0 0
shebang_numbers (Err bad) = bad_numbers bad
