-- A hidden direction mark at the front of some bytes.
use Rattle.std.specs.Prelude.{ℕ, List, Bool, false}
use Rattle.text.specs.declared.Decoded.{Decoded}
use Rattle.text.specs.declared.Decoded.TheVariants.{Char, End, Ill}
use Rattle.text.specs.Utf8.{decoded}
use Rattle.marks.specs.Marks.{hidden}

abbrev pub is_mark : Decoded → Bool
is_mark (Char c w) = hidden c
is_mark End = false
is_mark (Ill cause) = false

abbrev pub mark_at : List ℕ → Bool
mark_at s = is_mark (decoded s)
