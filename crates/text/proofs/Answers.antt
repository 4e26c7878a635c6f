-- Document 01, "Nothing left open": two answers that a call's promise allows for the same text are the same answer. Document 02, W2: and so the same cause.
use Rattle.std.specs.Prelude.{Err}
use Prim.Native.Nat.{ℕ}
use mathlib.Core.Path.{◌≡◌, sym, ◌∙◌}
use mathlib.Core.Bool.{Bool}
use Rattle.refusal.specs.declared.Cause.{Cause}
use Rattle.refusal.specs.declared.Bad.TheVariants.{NotUtf8}
use Rattle.refusal.specs.Verdict.{Verdict}
use Rattle.text.specs.declared.Decoded.{Decoded}
use Rattle.text.specs.declared.Decoded.TheVariants.{Ill}
use Rattle.text.proofs.check_length.Reads as check_length
use Rattle.text.proofs.check_text.Reads as check_text
use Rattle.text.proofs.check_utf8.Reads as check_utf8
use Rattle.text.proofs.decode.Reads as decode
use Rattle.text.proofs.starts_here.Reads as starts_here

pub one_verdict : (κs : _) (a : _) (r q : Verdict) (x y : _) → check_text.Post κs a r x → check_text.Post κs a q y → r ≡ q
one_verdict κs a r q x y p e = p ∙ sym e

pub one_length : (κs : _) (a : _) (r q : Verdict) (x y : _) → check_length.Post κs a r x → check_length.Post κs a q y → r ≡ q
one_length κs a r q x y p e = p ∙ sym e

pub one_utf8 : (κs : _) (a : _) (r q : Verdict) (x y : _) → check_utf8.Post κs a r x → check_utf8.Post κs a q y → r ≡ q
one_utf8 κs a r q x y p e = p ∙ sym e

pub one_decoded : (κs : _) (a : _) (r q : Decoded) (x y : _) → decode.Post κs a r x → decode.Post κs a q y → r ≡ q
one_decoded κs a r q x y p e = p ∙ sym e

pub one_start : (κs : _) (a : _) (r q : Bool) (x y : _) → starts_here.Post κs a r x → starts_here.Post κs a q y → r ≡ q
one_start κs a r q x y p e = p ∙ sym e

-- two causes that are allowed are equal
pub one_cause : (κs : _) (a : _) (p q : ℕ) (j k : Cause) (x y : _) → check_text.Post κs a (Err (NotUtf8 p j)) x → check_text.Post κs a (Err (NotUtf8 q k)) y → j ≡ k
one_cause κs a p q j k x y b e = let same = one_verdict κs a (Err (NotUtf8 p j)) (Err (NotUtf8 q k)) x y b e in cc

pub one_ill_cause : (κs : _) (a : _) (j k : Cause) (x y : _) → decode.Post κs a (Ill j) x → decode.Post κs a (Ill k) y → j ≡ k
one_ill_cause κs a j k x y b e = let same = one_decoded κs a (Ill j) (Ill k) x y b e in cc
