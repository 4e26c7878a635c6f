-- What the list call is to do: its answer, and how many records it writes, none where it refuses.
use Rattle.std.specs.Prelude.{ℕ, Bool, List, Ok, Err}
use Rattle.token.specs.Lists.{Lists}
use Rattle.lexer.specs.Steps.{start_of}
use Rattle.plan.specs.declared.Plan as plan
use Rattle.plan.specs.Answers.{ListAnswer, list_answer}

-- how many records are to be written
abbrev pub to_write : ListAnswer → ℕ
to_write (Ok n) = n
to_write (Err refusal) = 0

abbrev pub planned_of : (on : Bool) → ListAnswer → (n : ℕ) → plan.Plan
planned_of on answer n = record { answer = answer; n = n; first = start_of on }

abbrev pub plan_of : (limit : ℕ) (s : List ℕ) → Lists → (on : Bool) (slots : ℕ) → plan.Plan
plan_of limit s L on slots = planned_of on (list_answer limit s L on slots) (to_write (list_answer limit s L on slots))
