-- Document 01, "Nothing left open": two answers that a call's promise allows for the same arguments are the same answer.
use Rattle.std.specs.Prelude.{Result}
use mathlib.Core.Path.{◌≡◌, sym, ◌∙◌}
use Rattle.refusal.specs.declared.Numbers.{Numbers}
use Rattle.refusal.specs.declared.PlaceRefusal.{PlaceRefusal}
use Rattle.refusal.specs.Verdict.{Verdict}
use Rattle.lexer.specs.declared.Bare.{Bare}
use Rattle.lexer.specs.declared.Scan.{Scan}
use Rattle.lexer.proofs.bare_token.Reads as bare_token
use Rattle.lexer.proofs.before.Reads as before
use Rattle.lexer.proofs.start.Reads as start
use Rattle.lexer.proofs.step.Reads as step
use Rattle.lexer.proofs.token_verdict.Reads as token_verdict
use Rattle.lexer.proofs.token_numbers.Reads as token_numbers
use Rattle.lexer.proofs.advance_token.Reads as advance_token

pub one_token : (κs : _) (a : _) (r q : Result Scan PlaceRefusal) (x y : _) → advance_token.Post κs a r x → advance_token.Post κs a q y → r ≡ q
one_token κs a r q x y p e = p ∙ sym e

pub one_verdict : (κs : _) (a : _) (r q : Verdict) (x y : _) → token_verdict.Post κs a r x → token_verdict.Post κs a q y → r ≡ q
one_verdict κs a r q x y p e = p ∙ sym e

pub one_numbers : (κs : _) (a : _) (r q : Numbers) (x y : _) → token_numbers.Post κs a r x → token_numbers.Post κs a q y → r ≡ q
one_numbers κs a r q x y p e = p ∙ sym e

pub one_before : (κs : _) (a : _) (r q : Scan) (x y : _) → before.Post κs a r x → before.Post κs a q y → r ≡ q
one_before κs a r q x y p e = p ∙ sym e

pub one_start : (κs : _) (a : _) (r q : Scan) (x y : _) → start.Post κs a r x → start.Post κs a q y → r ≡ q
one_start κs a r q x y p e = p ∙ sym e

pub one_step : (κs : _) (a : _) (r q : Scan) (x y : _) → step.Post κs a r x → step.Post κs a q y → r ≡ q
one_step κs a r q x y p e = p.0 ∙ sym e.0

pub one_bare : (κs : _) (a : _) (r q : Bare) (x y : _) → bare_token.Post κs a r x → bare_token.Post κs a q y → r ≡ q
one_bare κs a r q x y p e = p ∙ sym e
