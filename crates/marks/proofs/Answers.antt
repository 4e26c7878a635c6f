-- Document 01, "Nothing left open": two answers that a promise allows for the same arguments are the same.
use Rattle.std.specs.Prelude.{ℕ, Option}
use mathlib.Core.Path.{◌≡◌, sym, ◌∙◌}
use mathlib.Core.Bool.{Bool}
use Rattle.marks.proofs.is_hidden.Reads as is_hidden
use Rattle.marks.proofs.hidden_mark.Reads as hidden_mark

pub one_hidden : (κs : _) (a : _) (r q : Bool) (x y : _) → is_hidden.Post κs a r x → is_hidden.Post κs a q y → r ≡ q
one_hidden κs a r q x y p e = p ∙ sym e

pub one_mark : (κs : _) (a : _) (r q : Option ℕ) (x y : _) → hidden_mark.Post κs a r x → hidden_mark.Post κs a q y → r ≡ q
one_mark κs a r q x y p e = p ∙ sym e
