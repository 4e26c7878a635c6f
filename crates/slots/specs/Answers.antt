-- What the call on a lent run of numbers answers, and what the run holds then (document 01, "When the build says no").
use Rattle.std.specs.Prelude.{ℕ, ◌*◌, ◌/◌, ◌≡◌, Bool, List, ◌++◌, length, drop, Ok, Err}
use Rattle.token.specs.declared.Token.{Token}
use Rattle.token.specs.Lists.{Lists}
use Rattle.token.specs.Tokens.{records}
use Rattle.plan.specs.Answers.{ListAnswer, list_answer}
use Rattle.slots.specs.Numbers.{width, numbers_of}

-- THE CONTENTS: on success the numbers of the tokens, and past them what was there; a refusal changes nothing
abbrev pub slots_after : ListAnswer → (tokens : List Token) (before : List ℕ) → List ℕ
slots_after (Ok n) tokens before = numbers_of tokens ++ drop (width * n) before
slots_after (Err refusal) tokens before = before

-- THE PROMISE of the call: the list call's answer, `width` numbers being a slot, and the run from before to after
pub record Slotted (limit : ℕ) (s : List ℕ) (L : Lists) (on : Bool) (before after : List ℕ) (r : ListAnswer) : Type 0 where
  pub answer : r ≡ list_answer limit s L on (length before / width)
  pub holds : after ≡ slots_after r (records L on s) before
