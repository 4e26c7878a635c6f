-- What writing the tokens from a position on does.
use Rattle.std.specs.Prelude.{ℕ, ◌/◌, ◌≡◌, Bool, List, length}
use Rattle.token.specs.Lists.{Lists}
use Rattle.slots.specs.Numbers.{width}
use Rattle.exports.specs.declared.RunAnswer.{RunAnswer}
use Rattle.exports.specs.Runs.{first_tokens, ran_over, written}

-- the tokens that there are slots for, `width` numbers being a slot, are written, and the answer tells of them
pub record RunPut (L : Lists) (s : List ℕ) (at : ℕ) (on : Bool) (before after : List ℕ) (r : RunAnswer) : Type 0 where
  pub answer : r ≡ ran_over L s at on (first_tokens L s at on (length before / width))
  pub holds : after ≡ written (first_tokens L s at on (length before / width)) before
