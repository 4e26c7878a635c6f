-- Document 01, "Nothing left open": two answers that a promise allows for the same arguments are the same answer.
use mathlib.Core.Path.{◌≡◌, sym, ◌∙◌}
use Prim.Native.Nat.{ℕ}
use Rattle.refusal.specs.declared.Numbers.{Numbers}
use Rattle.refusal.specs.Verdict.{Verdict}
use Rattle.refusal.proofs.done.Reads as done
use Rattle.refusal.proofs.cause_number.Reads as cause_number
use Rattle.refusal.proofs.bad_numbers.Reads as bad_numbers
use Rattle.refusal.proofs.verdict_numbers.Reads as verdict_numbers
use Rattle.refusal.proofs.in_order.Reads as in_order
use Rattle.refusal.proofs.lists_in_order.Reads as lists_in_order

pub one_done : (κs : _) (a : _) (r q : Numbers) (x y : _) → done.Post κs a r x → done.Post κs a q y → r ≡ q
one_done κs a r q x y p e = p ∙ sym e

pub one_cause_number : (κs : _) (a : _) (r q : ℕ) (x y : _) → cause_number.Post κs a r x → cause_number.Post κs a q y → r ≡ q
one_cause_number κs a r q x y p e = p ∙ sym e

pub one_bad_numbers : (κs : _) (a : _) (r q : Numbers) (x y : _) → bad_numbers.Post κs a r x → bad_numbers.Post κs a q y → r ≡ q
one_bad_numbers κs a r q x y p e = p ∙ sym e

pub one_verdict_numbers : (κs : _) (a : _) (r q : Numbers) (x y : _) → verdict_numbers.Post κs a r x → verdict_numbers.Post κs a q y → r ≡ q
one_verdict_numbers κs a r q x y p e = p ∙ sym e

pub one_in_order : (κs : _) (a : _) (r q : Verdict) (x y : _) → in_order.Post κs a r x → in_order.Post κs a q y → r ≡ q
one_in_order κs a r q x y p e = p ∙ sym e

pub one_lists_in_order : (κs : _) (a : _) (r q : Verdict) (x y : _) → lists_in_order.Post κs a r x → lists_in_order.Post κs a q y → r ≡ q
one_lists_in_order κs a r q x y p e = p ∙ sym e
