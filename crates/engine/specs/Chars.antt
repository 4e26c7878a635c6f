-- What is asked for and promised where one character is fed to the machine.
use Rattle.std.specs.Prelude.{ℕ, ◌-◌, ◌≤◌, ◌≡◌, Bool, List, [], ◌∷◌, ◌++◌, length, take, drop}
use Rattle.text.specs.Chars.{encode}
use Rattle.token.specs.Lists.{Lists}
use Rattle.machine.specs.declared.Mode.{Mode}
use Rattle.machine.specs.Machine.{Next, step}
use Rattle.turns.specs.declared.Before.{Before}
use Rattle.turns.specs.declared.Shown.{Shown}
use Rattle.turns.specs.Shown.{before_out}
use Rattle.goes.specs.Went.{Shallow}
use Rattle.engine.specs.declared.Kept.{Kept}
use Rattle.engine.specs.Laid.{Laid, Room, shown_bytes}

-- a part of a text
pub record Part (text : List ℕ) (i next : ℕ) : Type 0 where
  pub forth : i ≤ next
  pub within : next ≤ length text

-- its bytes
abbrev pub part_of : (text : List ℕ) (i next : ℕ) → List ℕ
part_of text i next = take (next - i) (drop i text)

-- what was held back, and then what is shown of the character that stands there
abbrev pub step_bytes : Before → Shown → (text : List ℕ) (i next : ℕ) → List ℕ
step_bytes before shown text i next = before_out before ++ shown_bytes (part_of text i next) shown

pub record Laying (writing : Bool) (before : Before) (shown : Shown) (text : List ℕ) (i next : ℕ) (out : List ℕ) (n : ℕ) : Type 0 where
  pub part : Part text i next
  pub room : Room writing out n (length (step_bytes before shown text i next))

-- a character that may be fed: it stands from i to next, and there is room for what the machine writes of it
pub record CharFeeding (writing : Bool) (L : Lists) (mode : Mode) (from at c : ℕ) (text : List ℕ) (i next : ℕ) (out : List ℕ) (n : ℕ) : Type 0 where
  pub stepping : Shallow mode
  pub part : Part text i next
  pub spelled : part_of text i next ≡ encode (c ∷ [])
  pub room : Room writing out n (length (encode (step L from at mode c).out))

-- A CHARACTER WAS FED: what the machine writes of it is laid, and the state is the machine's
pub record CharFed (writing : Bool) (next : Next) (out : List ℕ) (n : ℕ) (after : List ℕ) (k : Kept) : Type 0 where
  pub laid : Laid writing (encode next.out) out n after k.n
  pub mode : k.mode ≡ next.mode
  pub from : k.from ≡ next.from
