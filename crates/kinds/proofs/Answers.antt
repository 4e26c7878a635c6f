-- Document 01, "Nothing left open": two answers that a promise allows for the same kind are the same answer.
use Prim.Native.Nat.{ℕ}
use mathlib.Core.Path.{◌≡◌, sym, ◌∙◌}
use mathlib.Core.Bool.{Bool}
use Rattle.kinds.proofs.is_trivia.Reads as is_trivia
use Rattle.kinds.proofs.is_broken.Reads as is_broken
use Rattle.kinds.proofs.kind_number.Reads as kind_number
use Rattle.kinds.proofs.kind_code.Reads as kind_code
use Rattle.kinds.proofs.suffix_of.Reads as suffix_of

pub one_trivia : (κs : _) (a : _) (r q : Bool) (x y : _) → is_trivia.Post κs a r x → is_trivia.Post κs a q y → r ≡ q
one_trivia κs a r q x y p e = p ∙ sym e

pub one_broken : (κs : _) (a : _) (r q : Bool) (x y : _) → is_broken.Post κs a r x → is_broken.Post κs a q y → r ≡ q
one_broken κs a r q x y p e = p ∙ sym e

pub one_kind_number : (κs : _) (a : _) (r q : ℕ) (x y : _) → kind_number.Post κs a r x → kind_number.Post κs a q y → r ≡ q
one_kind_number κs a r q x y p e = p.same ∙ sym e.same

pub one_kind_code : (κs : _) (a : _) (r q : ℕ) (x y : _) → kind_code.Post κs a r x → kind_code.Post κs a q y → r ≡ q
one_kind_code κs a r q x y p e = p ∙ sym e

pub one_suffix : (κs : _) (a : _) (r q : ℕ) (x y : _) → suffix_of.Post κs a r x → suffix_of.Post κs a q y → r ≡ q
one_suffix κs a r q x y p e = p ∙ sym e
