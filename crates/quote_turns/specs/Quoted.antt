-- What is promised of any mode in quotes.
use Rattle.std.specs.Prelude.{ℕ, List, [], ◌∷◌}
use Rattle.token.specs.Lists.{lent}
use Rattle.machine.specs.declared.Mode.{Mode}
use Rattle.goes.specs.declared.Goes.{Goes}
use Rattle.goes.specs.Went.{Went}

-- the modes but InString, by their places: StringEscape; GotQuote, GotByteQuote, GotQuotes, WantsQuote, QuotedName, InLifetime, InQuotes, QuotesEscape; RawHashes, RawBody, RawEnd
abbrev pub quote_modes : List ℕ
quote_modes = 14 ∷ 24 ∷ 25 ∷ 26 ∷ 27 ∷ 28 ∷ 29 ∷ 30 ∷ 31 ∷ 32 ∷ 33 ∷ 34 ∷ []

-- the machine's step, with the starts a and the continues b, whatever the emoji are
pub record Quoted (a b : List ℕ) (mode : Mode) (c : ℕ) (g : Goes) : Type 0 where
  pub whatever : (e : List ℕ) → Went (lent a b e) mode c g
