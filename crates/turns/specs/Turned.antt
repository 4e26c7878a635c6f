-- What a turn means, as the machine says it.
use Rattle.std.specs.Prelude.{ℕ, ◌≡◌, List, [], ◌∷◌}
use Rattle.token.specs.Lists.{Lists}
use Rattle.machine.specs.declared.Mode.{Mode}
use Rattle.machine.specs.Machine.{Next, preceded, step}
use Rattle.goes.specs.Went.{went}
use Rattle.turns.specs.declared.Turn.{Turn}
use Rattle.turns.specs.Shown.{before_out}

-- a character c at the place p, where the token before began at st
abbrev pub shown : Lists → (st p c : ℕ) → Turn → Next
shown L st p c t = preceded (before_out t.before) (went L st p c t.goes)

-- THE TURN IS THE MACHINE'S STEP in a mode, wherever it stands
pub record Turned (L : Lists) (mode : Mode) (c : ℕ) (t : Turn) : Type 0 where
  pub does : (st p : ℕ) → shown L st p c t ≡ step L st p mode c

-- the modes in a token that is no comment and not broken, by their places, but InWord and InString
abbrev pub token_modes : List ℕ
token_modes = 10 ∷ 11 ∷ 12 ∷ 14 ∷ 16 ∷ 17 ∷ 18 ∷ 19 ∷ 20 ∷ 21 ∷ 22 ∷ 23 ∷ 24 ∷ 25 ∷ 26 ∷ 27 ∷ 28 ∷ 29 ∷ 30 ∷ 31 ∷ 32 ∷ 33 ∷ 34 ∷ 35 ∷ 36 ∷ 37 ∷ 38 ∷ 39 ∷ 40 ∷ 41 ∷ 42 ∷ []
