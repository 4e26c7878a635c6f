-- A text and lists that were checked, as one value.
use Rattle.std.specs.Prelude.{ℕ, List, Result, Ok, Err}
use Rattle.refusal.specs.declared.Bad.{Bad}
use Rattle.refusal.specs.Order.{refused_or}
use Rattle.token.specs.Lists.{Lists}
use Rattle.lexer.specs.Answers.{token_verdict}

pub record Source : Type 0 where
  pub text : List ℕ
  pub lists : Lists

-- 1, 3, 2, or the text with its lists
abbrev pub source_of : (limit : ℕ) (s : List ℕ) → Lists → Result Source Bad
source_of limit s L = refused_or Err (token_verdict limit s L) (Ok (record { text = s; lists = L }))
