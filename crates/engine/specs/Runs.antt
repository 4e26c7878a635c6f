-- What is asked for and promised where a run of bytes is fed to the machine, with CR LF read as LF.
use Rattle.std.specs.Prelude.{ℕ, ◌+◌, ◌≤◌, ◌≡◌, Bool, true, List, length}
use Rattle.text.specs.Chars.{chars, encode}
use Rattle.token.specs.Lists.{Lists}
use Rattle.line_ends.specs.LineEnds.{replaced}
use Rattle.machine.specs.declared.Mode.{Mode}
use Rattle.machine.specs.declared.State.{State}
use Rattle.machine.specs.Streams as stream
use Rattle.machine.specs.Pieces.{feed, deepest}
use Rattle.engine.specs.declared.Ran.{Ran}
use Rattle.engine.specs.Laid.{Laid}

-- a state of the machine
abbrev pub state : Mode → (from at : ℕ) → State
state mode from at = record { mode = mode; from = from; at = at }

-- what the machine makes of a run of bytes
abbrev pub fed_by : Lists → State → (text : List ℕ) → stream.Fed State
fed_by L s text = feed L s (replaced (chars text))

-- the places fit 32 bits, and there is room for what is written
pub record Feeding (writing : Bool) (L : Lists) (s : State) (text out : List ℕ) : Type 0 where
  pub shallow : deepest s.mode ≤ s.at
  pub short : s.at + length text ≤ 4294967295
  pub room : writing ≡ true → length (encode (fed_by L s text).out) ≤ length out

-- A RUN WAS FED: what the machine writes of it is laid from the buffer's beginning on, and the state is the machine's
pub record Fed (writing : Bool) (L : Lists) (s : State) (text out after : List ℕ) (r : Ran) : Type 0 where
  pub laid : Laid writing (encode (fed_by L s text).out) out 0 after r.n
  pub state : (fed_by L s text).state ≡ r.state
