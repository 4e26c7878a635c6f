-- Document 01, "Nothing left open": two answers that a promise allows for the same arguments are the same answer.
use mathlib.Core.Path.{◌≡◌, sym, ◌∙◌}
use mathlib.Core.Bool.{Bool}
use Rattle.refusal.specs.Verdict.{Verdict}
use Rattle.ranges.proofs.check_list.Reads as check
use Rattle.ranges.proofs.in_pairs.Reads as search_pairs
use Rattle.ranges.proofs.good_pair.Reads as good

pub one_verdict : (κs : _) (a : _) (r q : Verdict) (x y : _) → check.Post κs a r x → check.Post κs a q y → r ≡ q
one_verdict κs a r q x y p e = p ∙ sym e

pub one_found : (κs : _) (a : _) (r q : Bool) (x y : _) → search_pairs.Post κs a r x → search_pairs.Post κs a q y → r ≡ q
one_found κs a r q x y p e = p ∙ sym e

pub one_good_pair : (κs : _) (a : _) (r q : Bool) (x y : _) → good.Post κs a r x → good.Post κs a q y → r ≡ q
one_good_pair κs a r q x y p e = p ∙ sym e
