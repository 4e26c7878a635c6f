-- What the class calls and is_ident answer, refusals included (document 01, "When the build says no"). `limit` is the most pairs of a list.
use Rattle.refusal.specs.declared.Bad.{Bad}
use Rattle.std.specs.Prelude.{Bool, ℕ, List, Result, Ok, Err}
use Rattle.basics.specs.Choice.{pick}
use Rattle.refusal.specs.declared.Numbers.{Numbers}
use Rattle.refusal.specs.Verdict.{Verdict, fine}
use Rattle.refusal.specs.Numbers.{numbers, bad_numbers}
use Rattle.refusal.specs.Order.{in_order, lists_in_order, refused_or}
use Rattle.text.specs.Chars.{chars}
use Rattle.text.specs.Verdicts.{too_long, utf8_verdict}
use Rattle.ranges.specs.Rules.{list_verdict}
use Rattle.classes.specs.Identifiers.{id_start, id_continue, is_ident}
use Rattle.classes.specs.Emoji.{emoji_char}

-- done is 0, with 1 beside it for yes and 0 for no
abbrev pub answer_numbers : Result Bool Bad → Numbers
answer_numbers (Ok holds) = pick holds (numbers 0 1 0) (numbers 0 0 0)
answer_numbers (Err bad) = bad_numbers bad

abbrev pub id_start_answer : (limit : ℕ) (starts : List ℕ) → ℕ → Result Bool Bad
id_start_answer limit starts c = refused_or Err (list_verdict limit 0 starts) (Ok (id_start starts c))

abbrev pub id_continue_answer : (limit : ℕ) (continues : List ℕ) → ℕ → Result Bool Bad
id_continue_answer limit continues c = refused_or Err (list_verdict limit 1 continues) (Ok (id_continue continues c))

abbrev pub emoji_answer : (limit : ℕ) (emoji : List ℕ) → ℕ → Result Bool Bad
emoji_answer limit emoji c = refused_or Err (list_verdict limit 2 emoji) (Ok (emoji_char emoji c))

-- is_ident checks 1, then 3 for its two lists, then 2
unfoldable pub ident_verdict : (limit : ℕ) (text starts continues : List ℕ) → Verdict
ident_verdict limit text starts continues =
    in_order (too_long text) (lists_in_order (list_verdict limit 0 starts) (list_verdict limit 1 continues) fine) (utf8_verdict text)

abbrev pub ident_answer : (limit : ℕ) (text starts continues : List ℕ) → Result Bool Bad
ident_answer limit text starts continues = refused_or Err (ident_verdict limit text starts continues) (Ok (is_ident starts continues (chars text)))
