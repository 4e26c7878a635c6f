-- Document 01, "Nothing left open": two answers that a call's promise allows for the same arguments are the same answer.
use Rattle.std.specs.Prelude.{Result}
use Rattle.refusal.specs.declared.Bad.{Bad}
use mathlib.Core.Path.{◌≡◌, sym, ◌∙◌}
use mathlib.Core.Bool.{Bool}
use Rattle.refusal.specs.declared.Numbers.{Numbers}
use Rattle.refusal.specs.Verdict.{Verdict}
use Rattle.classes.proofs.is_whitespace.Reads as whitespace
use Rattle.classes.proofs.is_horizontal_whitespace.Reads as horizontal
use Rattle.classes.proofs.is_digit.Reads as decimal
use Rattle.classes.proofs.is_id_start.Reads as start
use Rattle.classes.proofs.is_id_continue.Reads as continue
use Rattle.classes.proofs.is_emoji_char.Reads as emoji
use Rattle.classes.proofs.is_ident.Reads as ident
use Rattle.classes.proofs.answer_numbers.Reads as answer_numbers
use Rattle.classes.proofs.id_start.Reads as checked_start
use Rattle.classes.proofs.id_continue.Reads as checked_continue
use Rattle.classes.proofs.emoji_char.Reads as checked_emoji
use Rattle.classes.proofs.ident.Reads as checked_ident
use Rattle.classes.proofs.ident_verdict.Reads as ident_verdict

pub one_whitespace : (κs : _) (a : _) (r q : Bool) (x y : _) → whitespace.Post κs a r x → whitespace.Post κs a q y → r ≡ q
one_whitespace κs a r q x y p e = p ∙ sym e

pub one_horizontal : (κs : _) (a : _) (r q : Bool) (x y : _) → horizontal.Post κs a r x → horizontal.Post κs a q y → r ≡ q
one_horizontal κs a r q x y p e = p ∙ sym e

pub one_start : (κs : _) (a : _) (r q : Result Bool Bad) (x y : _) → start.Post κs a r x → start.Post κs a q y → r ≡ q
one_start κs a r q x y p e = p ∙ sym e

pub one_continue : (κs : _) (a : _) (r q : Result Bool Bad) (x y : _) → continue.Post κs a r x → continue.Post κs a q y → r ≡ q
one_continue κs a r q x y p e = p ∙ sym e

pub one_emoji : (κs : _) (a : _) (r q : Result Bool Bad) (x y : _) → emoji.Post κs a r x → emoji.Post κs a q y → r ≡ q
one_emoji κs a r q x y p e = p ∙ sym e

pub one_ident : (κs : _) (a : _) (r q : Result Bool Bad) (x y : _) → ident.Post κs a r x → ident.Post κs a q y → r ≡ q
one_ident κs a r q x y p e = p ∙ sym e

pub one_digit : (κs : _) (a : _) (r q : Bool) (x y : _) → decimal.Post κs a r x → decimal.Post κs a q y → r ≡ q
one_digit κs a r q x y p e = p ∙ sym e

pub one_answer_numbers : (κs : _) (a : _) (r q : Numbers) (x y : _) → answer_numbers.Post κs a r x → answer_numbers.Post κs a q y → r ≡ q
one_answer_numbers κs a r q x y p e = p ∙ sym e

pub one_checked_start : (κs : _) (a : _) (r q : Bool) (x y : _) → checked_start.Post κs a r x → checked_start.Post κs a q y → r ≡ q
one_checked_start κs a r q x y p e = p ∙ sym e

pub one_checked_continue : (κs : _) (a : _) (r q : Bool) (x y : _) → checked_continue.Post κs a r x → checked_continue.Post κs a q y → r ≡ q
one_checked_continue κs a r q x y p e = p ∙ sym e

pub one_checked_emoji : (κs : _) (a : _) (r q : Bool) (x y : _) → checked_emoji.Post κs a r x → checked_emoji.Post κs a q y → r ≡ q
one_checked_emoji κs a r q x y p e = p ∙ sym e

pub one_checked_ident : (κs : _) (a : _) (r q : Bool) (x y : _) → checked_ident.Post κs a r x → checked_ident.Post κs a q y → r ≡ q
one_checked_ident κs a r q x y p e = p ∙ sym e

pub one_ident_verdict : (κs : _) (a : _) (r q : Verdict) (x y : _) → ident_verdict.Post κs a r x → ident_verdict.Post κs a q y → r ≡ q
one_ident_verdict κs a r q x y p e = p ∙ sym e
