-- Document 01, "Nothing left open": two answers that a call's promise allows for the same arguments are the same answer.
use mathlib.Core.Path.{◌≡◌, sym, ◌∙◌}
use Rattle.refusal.specs.declared.Numbers.{Numbers}
use Rattle.std.specs.Prelude.{Result}
use Rattle.refusal.specs.declared.PlaceRefusal.{PlaceRefusal}
use Rattle.token.specs.declared.RawStrError.{RawStrError}
use Rattle.strings.specs.declared.RawRefusal.{RawRefusal}
use Rattle.strings.specs.declared.GuardedAt.{GuardedAt}
use Rattle.strings.proofs.validate_raw_str.Reads as validate_raw_str
use Rattle.strings.proofs.guarded_double_quoted_string.Reads as guarded_string
use Rattle.strings.proofs.raw_numbers.Reads as raw_numbers
use Rattle.strings.proofs.guarded_numbers.Reads as guarded_numbers

pub one_raw : (κs : _) (a : _) (r q : Result (Result (Unit {0}) RawStrError) RawRefusal) (x y : _) → validate_raw_str.Post κs a r x → validate_raw_str.Post κs a q y → r ≡ q
one_raw κs a r q x y p e = p ∙ sym e

pub one_guarded : (κs : _) (a : _) (r q : Result GuardedAt PlaceRefusal) (x y : _) → guarded_string.Post κs a r x → guarded_string.Post κs a q y → r ≡ q
one_guarded κs a r q x y p e = p ∙ sym e

pub one_raw_numbers : (κs : _) (a : _) (r q : Numbers) (x y : _) → raw_numbers.Post κs a r x → raw_numbers.Post κs a q y → r ≡ q
one_raw_numbers κs a r q x y p e = p ∙ sym e

pub one_guarded_numbers : (κs : _) (a : _) (r q : Numbers) (x y : _) → guarded_numbers.Post κs a r x → guarded_numbers.Post κs a q y → r ≡ q
one_guarded_numbers κs a r q x y p e = p ∙ sym e
