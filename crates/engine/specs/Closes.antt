-- The bytes that are left of a text, and then its end, from a state of the machine on, with CR LF read as LF.
use Rattle.std.specs.Prelude.{ℕ, ◌+◌, ◌≤◌, ◌≡◌, Bool, true, false, List, [], ◌++◌, length, drop, Ok}
use Rattle.basics.specs.Choice.{pick}
use Rattle.token.specs.Lists.{Lists}
use Rattle.machine.specs.declared.State.{State}
use Rattle.machine.specs.Machine.{Result, ok, bad}
use Rattle.machine.specs.Pieces.{ended, deepest}
use Rattle.machine.specs.OneShot.{in_bytes}
use Rattle.engine.specs.Needs.{Need, mending}
use Rattle.engine.specs.Runs.{fed_by}

-- what the machine says: the rest of the key, or the place of the broken token
abbrev pub closed : Lists → State → (text : List ℕ) → Result
closed L s text = in_bytes (ended (fed_by L s text))

abbrev pub is_ok : Result → Bool
is_ok (ok rest) = true
is_ok (bad place) = false

abbrev pub rest_of : Result → List ℕ
rest_of (ok rest) = rest
rest_of (bad place) = []

abbrev pub need_in : Result → Need
need_in (ok rest) = Ok (length rest)
need_in (bad place) = mending place

-- the places fit 32 bits; and where the rest is to be written, there is one, and room for it
pub record Closing (writing : Bool) (L : Lists) (s : State) (text out : List ℕ) : Type 0 where
  pub shallow : deepest s.mode ≤ s.at
  pub short : s.at + length text ≤ 4294967295
  pub whole : writing ≡ true → is_ok (closed L s text) ≡ true
  pub room : writing ≡ true → length (rest_of (closed L s text)) ≤ length out

-- WHAT THE REST NEEDS; and where it is to be written, it is in the buffer's first bytes, and past it the buffer is as it was. It is hardly longer than the bytes that are left
pub record Closed (writing : Bool) (L : Lists) (s : State) (text out after : List ℕ) (r : Need) : Type 0 where
  pub need : r ≡ need_in (closed L s text)
  pub holds : after ≡ pick writing (rest_of (closed L s text) ++ drop (length (rest_of (closed L s text))) out) out
  pub few : length (rest_of (closed L s text)) ≤ length text + 6
