-- What the call says and leaves, by its cases, in the facts of the code.
use Rattle.std.specs.Prelude.{Ok, Err}
use Prim.Native.Nat.{ℕ, ◌*◌, ◌/◌, ◌≤◌}
use mathlib.Core.Path.{◌≡◌, refl, sym, ap, ◌∙◌}
use mathlib.Core.Bool.{Bool, true, false, true≢false}
use mathlib.Core.List.{List, ◌++◌}
use lib.Dec.{leb}
use lib.ListN.{length, drop}
use borrow.Author.Tests.{leb-true}
use native.Mathlib.Omega.{arith}
use Rattle.basics.specs.Choice.{pick}
use Rattle.refusal.specs.Verdict.{Verdict, fine}
use Rattle.refusal.specs.Order.{refused_or}
use Rattle.token.specs.Lists.{Lists}
use Rattle.token.specs.Tokens.{records}
use Rattle.lexer.specs.Answers.{token_verdict}
use Rattle.plan.specs.declared.ListRefusal.TheVariants.{Slots}
use Rattle.plan.specs.Answers.{ListAnswer, shared, roomed, list_answer}
use Rattle.slots.specs.Numbers.{width, numbers_of}
use Rattle.slots.specs.Fills.{FilledSlots}
use Rattle.slots.specs.Answers.{Slotted}

abbrev is_listed : ListAnswer → Bool
is_listed (Ok n) = true
is_listed (Err refusal) = false

abbrev tokens_in : ListAnswer → ℕ
tokens_in (Ok n) = n
tokens_in (Err refusal) = 0

-- DONE is said only where there is room
record Room (total slots n : ℕ) : Type 0 where
  room : total ≤ slots
  same : total ≡ n

roomy : (total slots n : ℕ) (t : Bool) → leb total slots ≡ t → pick t (Ok total) (Err (Slots total)) ≡ Ok n → Room total slots n
roomy total slots n true q e = record { room = leb-true total slots q; same = ap tokens_in e }
roomy total slots n false q e = absurd (true≢false (sym (ap is_listed e)))

module _ (limit : ℕ) (s : List ℕ) (L : Lists) (on : Bool) (before : List ℕ) where
  module _ (k : token_verdict limit s L ≡ fine) {a : ListAnswer} (e : a ≡ roomed (length (records L on s)) (length before / width)) where
    answered : a ≡ list_answer limit s L on (length before / width)
    answered = e ∙ sym (ap (λ (v : Verdict). refused_or shared v (roomed (length (records L on s)) (length before / width))) k)

    module _ {n : ℕ} (q : a ≡ Ok n) where
      done : Room (length (records L on s)) (length before / width) n
      done = roomy (length (records L on s)) (length before / width) n (leb (length (records L on s)) (length before / width)) refl (sym e ∙ q)

      pub fill_room : width * length (records L on s) ≤ length before
      fill_room = omega (arith, done.room)

      pub listed_in : {after : List ℕ} → FilledSlots L s on before after → Slotted limit s L on before after (Ok n)
      listed_in w = record { answer = sym q ∙ answered; holds = w ∙ ap (λ (j : ℕ). numbers_of (records L on s) ++ drop (width * j) before) done.same }
