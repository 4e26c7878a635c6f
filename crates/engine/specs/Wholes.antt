-- The key of a whole text, with CR LF read as LF.
use Rattle.std.specs.Prelude.{ℕ, ◌≤◌, ◌≡◌, Bool, true, List, ◌++◌, length, drop, Ok}
use Rattle.basics.specs.Choice.{pick}
use Rattle.text.specs.Chars.{WellFormed}
use Rattle.eaters.specs.Find.{Place, at, nowhere}
use Rattle.token.specs.Lists.{Lists}
use Rattle.line_ends.specs.LineEnds.{replaced}
use Rattle.canon.specs.Keyable.{Keyable, broken_at}
use Rattle.canon.specs.Key.{key_of}
use Rattle.engine.specs.Needs.{Need, mending}

-- the first broken token, or the bytes of the key
abbrev pub need_for : Place → (bytes : ℕ) → Need
need_for (at start) bytes = mending start
need_for nowhere bytes = Ok bytes

-- the same of a text
abbrev pub need_of : Lists → (s : List ℕ) → Need
need_of L s = need_for (broken_at L s) (length (key_of L s))

-- the text is UTF-8 within the limit; and where the key is to be written, there is one, and room for it
pub record KeyReady (writing : Bool) (L : Lists) (text out : List ℕ) : Type 0 where
  pub fits : length text ≤ 4294967295
  pub well : WellFormed text
  pub whole : writing ≡ true → Keyable L (replaced text)
  pub room : writing ≡ true → length (key_of L (replaced text)) ≤ length out

-- WHAT THE KEY OF THE REPLACED TEXT NEEDS; and where it is to be written, it is in the buffer's first bytes, and the rest is as it was
pub record KeyMade (writing : Bool) (L : Lists) (text out after : List ℕ) (r : Need) : Type 0 where
  pub need : r ≡ need_of L (replaced text)
  pub holds : after ≡ pick writing (key_of L (replaced text) ++ drop (length (key_of L (replaced text))) out) out
