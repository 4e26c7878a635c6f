-- Document 01, "Nothing left open": what `whole` answers and leaves is settled by its promise.
use mathlib.Core.Path.{◌≡◌, sym, ◌∙◌}
use mathlib.Core.Bool.{Bool}
use mathlib.Core.List.{List}
use Prim.Native.Nat.{ℕ}
use Rattle.token.specs.Lists.{Lists}
use Rattle.engine.specs.Needs.{Need}
use Rattle.engine.specs.Wholes.{KeyMade}

module _ {writing : Bool} {L : Lists} {s before after later : List ℕ} {r q : Need} (f : KeyMade writing L s before after r) (g : KeyMade writing L s before later q) where
  pub one_need : r ≡ q
  one_need = f.need ∙ sym g.need

  pub one_buffer : after ≡ later
  one_buffer = f.holds ∙ sym g.holds
