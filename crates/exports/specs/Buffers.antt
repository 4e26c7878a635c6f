-- What the two calls with a lent buffer say, by number, and what the buffer holds then.
use Rattle.std.specs.Prelude.{ℕ, ◌/◌, ◌≡◌, Bool, List, length}
use Rattle.token.specs.Lists.{Lists}
use Rattle.token.specs.Tokens.{records}
use Rattle.plan.specs.Answers.{list_answer, list_numbers}
use Rattle.slots.specs.Numbers.{width}
use Rattle.slots.specs.Answers as slots
use Rattle.line_ends.specs.LineEnds.{replaced}
use Rattle.canon.specs.Key.{key_of}
use Rattle.key.specs.Answers as key
use Rattle.key.specs.Answers.{key_answer, key_numbers}
use Rattle.exports.specs.declared.Answer.{Answer}
use Rattle.exports.specs.Answers.{answer_of}

pub record TokensOut (limit : ℕ) (s : List ℕ) (L : Lists) (on : Bool) (before after : List ℕ) (r : Answer) : Type 0 where
  pub answer : r ≡ answer_of (list_numbers (list_answer limit s L on (length before / width)))
  pub holds : after ≡ slots.slots_after (list_answer limit s L on (length before / width)) (records L on s) before

pub record KeyOut (limit : ℕ) (s : List ℕ) (L : Lists) (before after : List ℕ) (r : Answer) : Type 0 where
  pub answer : r ≡ answer_of (key_numbers (key_answer limit s L (length before)))
  pub holds : after ≡ key.buffer_after (key_answer limit s L (length before)) (key_of L (replaced s)) before
