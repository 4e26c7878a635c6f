-- What is planned can be done, and done it is what the call promises.
use Rattle.std.specs.Prelude.{Ok, Err}
use Prim.Native.Nat.{ℕ, ◌≤◌}
use mathlib.Core.Path.{◌≡◌, refl, ap}
use mathlib.Core.Bool.{Bool, true, false}
use mathlib.Core.List.{List, ◌++◌}
use lib.Dec.{leb}
use lib.ListN.{length, drop}
use borrow.Author.Tests.{leb-true}
use native.Mathlib.Omega.{arith}
use Rattle.basics.specs.Choice.{pick}
use Rattle.refusal.specs.Verdict.{Verdict}
use Rattle.refusal.specs.Order.{refused_or}
use Rattle.token.specs.declared.Token.{Token}
use Rattle.token.specs.Lists.{Lists}
use Rattle.token.specs.Tokens.{records}
use Rattle.lexer.specs.Steps.{start_of, following}
use Rattle.lexer.specs.Ready.{Ready}
use Rattle.lexer.specs.Answers.{token_verdict}
use Rattle.lexer.proofs.Checks.{fine_checked}
use Rattle.lexer.proofs.Walks.{start_ready}
use Rattle.plan.specs.declared.ListRefusal.TheVariants.{Slots}
use Rattle.plan.specs.Answers.{ListAnswer, shared, list_answer, listed}
use Rattle.plan.specs.Plans.{to_write, plan_of}
use Rattle.plan.proofs.Counting.{steps_records}

-- THE PLAN, by the cases of the verdict and of the room
module _ (limit : ℕ) (s : List ℕ) (L : Lists) (on : Bool) (slots : ℕ) where
  abbrev total : ℕ
  total = length (records L on s)

  abbrev answered : Verdict → Bool → ListAnswer
  answered v t = refused_or shared v (pick t (Ok total) (Err (Slots total)))

  room_at : (v : Verdict) (t : Bool) → leb total slots ≡ t → to_write (answered v t) ≤ slots
  room_at (Ok tt) true e = leb-true total slots e
  room_at (Ok tt) false e = omega arith
  room_at (Err bad) t e = omega arith

  -- what is to be written has room
  pub plan_room : (plan_of limit s L on slots).n ≤ slots
  plan_room = room_at (token_verdict limit s L) (leb total slots) refl

  ready_at : (v : Verdict) (t : Bool) → v ≡ token_verdict limit s L → 1 ≤ to_write (answered v t) → Ready s L (start_of on)
  ready_at (Ok tt) t e h = start_ready {on = on} (fine_checked limit s L e refl) refl
  ready_at (Err bad) t e h = absurd (omega arith)

  -- a step is asked only where the text and the lists were checked
  pub plan_ready : 1 ≤ (plan_of limit s L on slots).n → Ready s L (start_of on)
  plan_ready = ready_at (token_verdict limit s L) (leb total slots) refl

  listed_at : (old : List Token) (v : Verdict) (t : Bool) → v ≡ token_verdict limit s L
      → following L s (to_write (answered v t)) (start_of on) ++ drop (to_write (answered v t)) old ≡ listed (answered v t) (records L on s) old
  listed_at old (Ok tt) true e = ap (λ (l : List Token). l ++ drop total old) (steps_records L s (fine_checked limit s L e refl).well on)
  listed_at old (Ok tt) false e = refl
  listed_at old (Err bad) t e = refl

  -- what is written is what is promised
  pub plan_listed : (old : List Token) → following L s (plan_of limit s L on slots).n (start_of on) ++ drop (plan_of limit s L on slots).n old ≡ listed (list_answer limit s L on slots) (records L on s) old
  plan_listed old = listed_at old (token_verdict limit s L) (leb total slots) refl
