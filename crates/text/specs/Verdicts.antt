-- Document 01, "When the build says no": what the checks of a text say. Document 02, W2: 2 says why the bytes are bad.
use Rattle.std.specs.Prelude.{ℕ, List, length, drop, ltb, eqb, Err}
use Rattle.basics.specs.Choice.{pick}
use Rattle.refusal.specs.declared.Bad.TheVariants.{TooLong, NotUtf8}
use Rattle.refusal.specs.declared.Cause.{Cause}
use Rattle.refusal.specs.declared.Cause.TheVariants.{Cut, Follow}
use Rattle.refusal.specs.Verdict.{Verdict, fine}
use Rattle.refusal.specs.Order.{in_order}
use Rattle.text.specs.declared.Decoded.{Decoded}
use Rattle.text.specs.declared.Decoded.TheVariants.{Char, End, Ill}
use Rattle.text.specs.Utf8.{decoded}
use Rattle.text.specs.Chars.{chars, size}

-- 1: the text has over 4,294,967,295 bytes
unfoldable pub too_long : List ℕ → Verdict
too_long s = pick (ltb 4294967295 (length s)) (Err TooLong) fine

-- why a sequence is ill-formed. Where the characters of a text end before the text does, an ill-formed sequence stands and nothing else
-- (`proofs/Stops`: `first_ill`), so that the last two rows are never asked.
abbrev pub cause_of : Decoded → Cause
cause_of (Ill cause) = cause
cause_of End = Cut
cause_of (Char c w) = Follow

-- 2: the text is not UTF-8. Its first ill-formed sequence starts where the characters before it end, and is bad for its own cause.
unfoldable pub utf8_verdict : List ℕ → Verdict
utf8_verdict s =
    pick (eqb (size (chars s)) (length s)) fine
    (Err (NotUtf8 (size (chars s)) (cause_of (decoded (drop (size (chars s)) s)))))

-- what a call says of a text alone: 1, then 2
abbrev pub text_verdict : List ℕ → Verdict
text_verdict s = in_order (too_long s) fine (utf8_verdict s)
