-- The line of a place in a text (document 02, W5): the number of bytes LF, 0x0A, before it, from 0.
use Rattle.std.specs.Prelude.{ℕ, ◌+◌, List, [], ◌∷◌, eqb, take}
use Rattle.basics.specs.Choice.{pick}

-- a byte counts if it is LF
abbrev pub feed : ℕ → ℕ
feed b = pick (eqb b 0x0A) 1 0

-- how many of the bytes are LF
abbrev pub line_feeds : List ℕ → ℕ
line_feeds [] = 0
line_feeds (b ∷ bs) = feed b + line_feeds bs

-- THE LINE of a place: how many of the bytes before it are LF
abbrev pub feeds_before : (s : List ℕ) (at : ℕ) → ℕ
feeds_before s at = line_feeds (take at s)
