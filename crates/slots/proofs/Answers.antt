-- Document 01, "Nothing left open": two answers that the promise allows for the same arguments are the same, and so are the two runs.
use Prim.Native.Nat.{ℕ}
use mathlib.Core.Path.{◌≡◌, sym, ap, ◌∙◌}
use mathlib.Core.Bool.{Bool}
use mathlib.Core.List.{List}
use Rattle.token.specs.Lists.{Lists}
use Rattle.token.specs.Tokens.{records}
use Rattle.plan.specs.Answers.{ListAnswer}
use Rattle.slots.specs.Answers.{slots_after, Slotted}

module _ {limit : ℕ} {s before after later : List ℕ} {L : Lists} {on : Bool} {r q : ListAnswer} (f : Slotted limit s L on before after r) (g : Slotted limit s L on before later q) where
  pub one_answer : r ≡ q
  one_answer = f.answer ∙ sym g.answer

  pub one_run : after ≡ later
  one_run = f.holds ∙ ap (λ (x : ListAnswer). slots_after x (records L on s) before) one_answer ∙ sym g.holds
