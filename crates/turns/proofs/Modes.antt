-- In any mode: what holds whatever the other lists are holds with the lists lent; and where a token begins with the character, the step is the machine's.
use Prim.Native.Nat.{ℕ}
use mathlib.Core.Path.{◌≡◌, sym, ap, ◌∙◌}
use mathlib.Core.Bool.{Bool}
use Rattle.token.specs.Lists.{Lists, lent}
use Rattle.machine.specs.declared.Mode.{Mode}
use Rattle.goes.specs.declared.Goes.{Goes}
use Rattle.goes.specs.declared.Goes.TheVariants.{Ends}
use Rattle.goes.specs.Went.{Went}
use Rattle.number_turns.specs.Numbered.{Numbered}
use Rattle.quote_turns.specs.Quoted.{Quoted}
use Rattle.turns.specs.declared.Before.{Before}
use Rattle.turns.specs.declared.First.{First}
use Rattle.turns.specs.declared.Stepped.{Stepped}
use Rattle.turns.specs.declared.Turn.{Turn}
use Rattle.machine.specs.Machine.{preceded}
use Rattle.turns.specs.Shown.{before_out}
use Rattle.turns.specs.First.{first_of, begun}
use Rattle.turns.specs.Turned.{shown, Turned}
use Rattle.turns.specs.Steps.{done, Does, Begins}
use Rattle.turns.proofs.Begun.{first_as}

module _ (L : Lists) (m : Mode) (c : ℕ) where
  pub token_number : {g : Goes} → Numbered L.starts m c g → Went L m c g
  token_number h = h.whatever L.continues L.emoji

  pub token_quoted : {g : Goes} → Quoted L.starts L.continues m c g → Went L m c g
  token_quoted h = h.whatever L.emoji

  pub step_ends : {t : Turn} {gap : Bool} {r : Stepped} → Turned L m c t → t.goes ≡ Ends gap → Begins L.starts L.emoji t.before gap c r → Does L m c r
  step_ends {t} q e h = record { does = λ st p. h.does L.continues st p ∙ sym (ap (λ (g : Goes). shown L st p c (record { before = t.before; goes = g })) e) ∙ q.does st p }

-- what begins is what is shown of it, after what was held back
pub begins_as : (L : Lists) (u : Before) (gap : Bool) (c : ℕ) {f : First} {t : Stepped} → f ≡ first_of L gap c → ((st p : ℕ) → done st p c t ≡ preceded (before_out u) (begun p c f))
    → Begins L.starts L.emoji u gap c t
begins_as L u gap c q h =
    record { does = λ b st p. h st p ∙ ap (λ (x : First). preceded (before_out u) (begun p c x)) q ∙ ap (preceded (before_out u)) (first_as (lent L.starts b L.emoji) p c gap) }
