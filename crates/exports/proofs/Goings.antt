-- What the call that goes on answers and leaves, by its cases, in the facts of the code.
use Prim.Native.Nat.{ℕ}
use mathlib.Core.Path.{◌≡◌, sym, ◌∙◌}
use mathlib.Core.Bool.{Bool, true, false}
use mathlib.Core.List.{List}
use Rattle.refusal.specs.declared.Numbers.{Numbers}
use Rattle.refusal.specs.Verdict.{Verdict, fine}
use Rattle.refusal.specs.Numbers.{numbers}
use Rattle.text.specs.Position.{on_boundary, starts_here}
use Rattle.text.proofs.Positions.{boundary_byte}
use Rattle.token.specs.Lists.{Lists}
use Rattle.lexer.specs.Answers.{token_verdict}
use Rattle.lexer.proofs.Checks.{fine_checked}
use Rattle.exports.specs.declared.RunAnswer.{RunAnswer}
use Rattle.exports.specs.Runs.{no_run, at_boundary, RunOut}
use Rattle.exports.specs.Going.{RunPut}

module _ (limit : ℕ) (s : List ℕ) (L : Lists) {v : Verdict} (e : v ≡ token_verdict limit s L) where
  -- the checks let through, and the position is asked
  module _ (k : v ≡ fine) (at : ℕ) {t : Bool} (h : t ≡ starts_here s at) where
    boundary : t ≡ on_boundary s at
    boundary = h ∙ sym (boundary_byte s (fine_checked limit s L e k).well at)

    done_at : {A : Type 0} (f : Numbers → A) (a : A) → t ≡ true → a ≡ at_boundary limit s L at f a
    done_at f a p = rw (← e, k, ← boundary, p)

    none_at : {A : Type 0} (f : Numbers → A) (a : A) → t ≡ false → f (numbers 4 at 0) ≡ at_boundary limit s L at f a
    none_at f a p = rw (← e, k, ← boundary, p)

    pub going_ready : t ≡ true → on_boundary s at ≡ true
    going_ready p = sym boundary ∙ p

    pub given_run : (on : Bool) {before after : List ℕ} {r : RunAnswer} → t ≡ true → RunPut L s at on before after r → RunOut limit s L at on before after r
    given_run on {before} p u = record { answer = u.answer ∙ done_at no_run _ p; holds = u.holds ∙ done_at (λ n. before) _ p }

    pub position_run : (on : Bool) {before : List ℕ} {r : RunAnswer} → t ≡ false → r ≡ no_run (numbers 4 at 0) → RunOut limit s L at on before before r
    position_run on {before} p q = record { answer = q ∙ none_at no_run _ p; holds = none_at (λ n. before) _ p }
