-- Positions in a text: between two characters, or inside one.
use Rattle.std.specs.Prelude.{ℕ, ◌-◌, List, [], ◌∷◌, Bool, not, length, get_or, eqb, leb, ltb}
use Rattle.basics.specs.Choice.{and, or}
use Rattle.basics.specs.Tests.{within}
use Rattle.text.specs.Chars.{chars, width}

-- `at` bytes end with a character: none, or the first character's and then bytes that end with a character
unfoldable pub edge : List ℕ → (at : ℕ) → Bool
edge [] at = eqb at 0
edge (c ∷ cs) at = or (eqb at 0) (and (leb (width c) at) (edge cs (at - width c)))

-- a position of a text is on a boundary: at its start, between two characters or at its end. Any other is inside a character or past the end.
abbrev pub on_boundary : List ℕ → (at : ℕ) → Bool
on_boundary s at = edge (chars s) at

-- the same by the bytes, in a well-formed text: the end, or a byte that is not a UTF8-tail
unfoldable pub starts_here : List ℕ → (at : ℕ) → Bool
starts_here s at = or (eqb at (length s)) (and (ltb at (length s)) (not (within 0x80 0xBF (get_or s at 0))))
