-- The end of a text, as the machine says it.
use Rattle.std.specs.Prelude.{ℕ, ◌≡◌, Option, None, Some}
use Rattle.machine.specs.declared.Mode.{Mode}
use Rattle.machine.specs.Machine.{Result, ok, bad, finish}
use Rattle.turns.specs.declared.Before.{Before}
use Rattle.turns.specs.Shown.{before_out}

-- what is still to be written; or the token begun at a place is broken
abbrev pub end_result : (from : ℕ) → Option Before → Result
end_result from (Some before) = ok (before_out before)
end_result from None = bad from

-- it is the machine's, wherever the token began
pub record Ends (mode : Mode) (e : Option Before) : Type 0 where
  pub ends : (from : ℕ) → end_result from e ≡ finish from mode
