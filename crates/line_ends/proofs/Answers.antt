-- Document 01, "Nothing left open": two answers that a promise allows for the same arguments are the same.
use Rattle.std.specs.Prelude.{ℕ, Option}
use mathlib.Core.Path.{◌≡◌, sym, ◌∙◌}
use mathlib.Core.Bool.{Bool}
use Rattle.line_ends.proofs.is_cr_lf.Reads as is_cr_lf
use Rattle.line_ends.proofs.double_return.Reads as double_return

pub one_cr_lf : (κs : _) (a : _) (r q : Bool) (x y : _) → is_cr_lf.Post κs a r x → is_cr_lf.Post κs a q y → r ≡ q
one_cr_lf κs a r q x y p e = p ∙ sym e

pub one_found : (κs : _) (a : _) (r q : Option ℕ) (x y : _) → double_return.Post κs a r x → double_return.Post κs a q y → r ≡ q
one_found κs a r q x y p e = p ∙ sym e
