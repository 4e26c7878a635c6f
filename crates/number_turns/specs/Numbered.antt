-- What is promised of any mode in a number.
use Rattle.std.specs.Prelude.{ℕ, List, [], ◌∷◌}
use Rattle.token.specs.Lists.{lent}
use Rattle.machine.specs.declared.Mode.{Mode}
use Rattle.goes.specs.declared.Goes.{Goes}
use Rattle.goes.specs.Went.{Went}

-- the modes that are meant, by their places: GotZero, InDigits, InBased, InHex, GotDot, InFraction, GotE, InExponent
abbrev pub number_modes : List ℕ
number_modes = 35 ∷ 36 ∷ 37 ∷ 38 ∷ 39 ∷ 40 ∷ 41 ∷ 42 ∷ []

-- the machine's step, with the starts a, whatever the continues and the emoji are
pub record Numbered (a : List ℕ) (mode : Mode) (c : ℕ) (g : Goes) : Type 0 where
  pub whatever : (b e : List ℕ) → Went (lent a b e) mode c g
