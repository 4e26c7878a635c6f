-- What an answer means: what is written, the mode after it, and the place of the token begun, as the machine says it.
use Rattle.std.specs.Prelude.{ℕ, ◌<◌, ◌≡◌, List}
use denote.Enum.Declared.{tag_of}
use types.Run.{OneOf}
use Rattle.token.specs.Lists.{Lists}
use Rattle.machine.specs.declared.Mode.{Mode}
use Rattle.machine.specs.contracts.Mode.{the_type}
use Rattle.machine.specs.Pieces.{deepest}
use Rattle.machine.specs.Machine.{Next, taken, silent, at_start, step}
use Rattle.goes.specs.declared.Goes.{Goes}
use Rattle.goes.specs.declared.Goes.TheVariants.{Takes, Drops, Ends}

-- a character c at the place p, where the token before began at st
abbrev pub went : Lists → (st p c : ℕ) → Goes → Next
went L st p c (Takes m) = taken c m st
went L st p c (Drops m) = silent m st
went L st p c (Ends gap) = at_start L p gap c

-- THE ANSWER IS THE MACHINE'S STEP in a mode, wherever it stands
pub record Went (L : Lists) (mode : Mode) (c : ℕ) (g : Goes) : Type 0 where
  pub does : (st p : ℕ) → went L st p c g ≡ step L st p mode c

-- a mode is one of some, which are named by their places among the modes of crate `machine`, from 0 on
abbrev pub Among : List ℕ → Mode → Type 0
Among ns m = OneOf ns (tag_of the_type m)

-- depth and hashes of a mode can be counted one further
abbrev pub Shallow : Mode → Type 0
Shallow m = deepest m < 4294967295
