-- What writing the numbers of tokens asks, and what it does.
use Rattle.std.specs.Prelude.{ℕ, ◌+◌, ◌*◌, ◌≤◌, ◌≡◌, Bool, List, ◌++◌, length, drop}
use Rattle.token.specs.declared.Token.{Token}
use Rattle.token.specs.Lists.{Lists}
use Rattle.token.specs.Tokens.{records}
use Rattle.slots.specs.Numbers.{width, numbers_of}

-- there is room at n for the numbers of a token, and the start is one of them
pub record TokenFits (slots : List ℕ) (n : ℕ) (t : Token) : Type 0 where
  pub room : n + width ≤ length slots
  pub narrow : t.start ≤ 4294967295

-- the numbers of the tokens are in the first slots, and the rest is as it was
abbrev pub FilledSlots : Lists → (s : List ℕ) (on : Bool) (before after : List ℕ) → Type 0
FilledSlots L s on before after = after ≡ numbers_of (records L on s) ++ drop (width * length (records L on s)) before
