-- Document 01, "Nothing left open": two answers that a call's promise allows for the same arguments are the same answer.
use mathlib.Core.Path.{◌≡◌, sym, ◌∙◌}
use Rattle.refusal.specs.declared.Numbers.{Numbers}
use Rattle.plan.specs.declared.Plan.{Plan}
use Rattle.plan.proofs.plan_list.Reads as plan_list
use Rattle.plan.proofs.list_numbers.Reads as list_numbers

pub one_plan : (κs : _) (a : _) (r q : Plan) (x y : _) → plan_list.Post κs a r x → plan_list.Post κs a q y → r ≡ q
one_plan κs a r q x y p e = p ∙ sym e

pub one_numbers : (κs : _) (a : _) (r q : Numbers) (x y : _) → list_numbers.Post κs a r x → list_numbers.Post κs a q y → r ≡ q
one_numbers κs a r q x y p e = p ∙ sym e
