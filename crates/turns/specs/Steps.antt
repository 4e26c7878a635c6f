-- What the step of one character promises: it is the machine's, for any places.
use Rattle.std.specs.Prelude.{ℕ, ◌≡◌, Bool, List, [], ◌∷◌, ◌++◌}
use Rattle.basics.specs.Choice.{pick}
use Rattle.token.specs.Names.{'newline'}
use Rattle.token.specs.Lists.{Lists, lent}
use Rattle.machine.specs.declared.Mode.{Mode}
use Rattle.machine.specs.Machine.{Next, preceded, at_start, step}
use Rattle.turns.specs.declared.Before.{Before}
use Rattle.turns.specs.declared.Shown.{Shown}
use Rattle.turns.specs.declared.Shown.TheVariants.{Itself, Line, None}
use Rattle.turns.specs.declared.Stepped.{Stepped}
use Rattle.turns.specs.Shown.{before_out}

-- what is written for the character c itself
abbrev pub shown_out : (c : ℕ) → Shown → List ℕ
shown_out c Itself = c ∷ []
shown_out c Line = 'newline' ∷ []
shown_out c None = []

-- what is written for it in all
abbrev pub whole_out : (c : ℕ) → Stepped → List ℕ
whole_out c t = before_out t.before ++ shown_out c t.shown

-- as the machine says it, at the place p, where the token before began at st
abbrev pub done : (st p c : ℕ) → Stepped → Next
done st p c t = record { out = whole_out c t; mode = t.mode; from = pick t.begins p st }

-- IT DOES WHAT THE MACHINE DOES, wherever it stands
pub record Does (L : Lists) (mode : Mode) (c : ℕ) (t : Stepped) : Type 0 where
  pub does : (st p : ℕ) → done st p c t ≡ step L st p mode c

-- the same where a token begins, after what was held back
pub record Begins (starts emoji : List ℕ) (before : Before) (gap : Bool) (c : ℕ) (t : Stepped) : Type 0 where
  pub does : (continues : List ℕ) (st p : ℕ) → done st p c t ≡ preceded (before_out before) (at_start (lent starts continues emoji) p gap c)
