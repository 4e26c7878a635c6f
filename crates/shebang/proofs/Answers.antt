-- Document 01, "Nothing left open": two answers that a call's promise allows for the same arguments are the same answer.
use mathlib.Core.Path.{◌≡◌, sym, ◌∙◌}
use Rattle.refusal.specs.declared.Numbers.{Numbers}
use Rattle.token.specs.Lists.{none}
use Rattle.std.specs.Prelude.{Option, Result}
use Prim.Native.Nat.{ℕ}
use Rattle.refusal.specs.declared.Bad.{Bad}
use Rattle.shebang.proofs.strip_shebang.Reads as strip_shebang
use Rattle.shebang.proofs.shebang_numbers.Reads as shebang_numbers

pub one_shebang : (κs : _) (a : _) (r q : Result (Option ℕ) Bad) (x y : _) → strip_shebang.Post κs a r x → strip_shebang.Post κs a q y → r ≡ q
one_shebang κs a r q x y p e = p.answer none ∙ sym (e.answer none)

pub one_shebang_numbers : (κs : _) (a : _) (r q : Numbers) (x y : _) → shebang_numbers.Post κs a r x → shebang_numbers.Post κs a q y → r ≡ q
one_shebang_numbers κs a r q x y p e = p ∙ sym e
