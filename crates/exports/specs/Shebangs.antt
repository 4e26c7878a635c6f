-- What strip_shebang says, by number: whatever the lists.
use Rattle.std.specs.Prelude.{ℕ, ◌≡◌, List}
use Rattle.token.specs.Lists.{Lists}
use Rattle.shebang.specs.Answers.{shebang_answer, shebang_numbers}
use Rattle.exports.specs.declared.Answer.{Answer}
use Rattle.exports.specs.Answers.{answer_of}

pub record StrippedOut (s : List ℕ) (r : Answer) : Type 0 where
  pub answer : (L : Lists) → r ≡ answer_of (shebang_numbers (shebang_answer L s))
