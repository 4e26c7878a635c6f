-- Hidden direction marks (document 02, W6): nine characters that are not seen themselves, and have what stands beside them shown in another order than it is read.
use Rattle.std.specs.Prelude.{ℕ, ◌+◌, List, [], ◌∷◌, Bool, not}
use Rattle.basics.specs.Choice.{pick, or}
use Rattle.basics.specs.Tests.{within, all}
use Rattle.text.specs.Chars.{chars, width}
use Rattle.eaters.specs.Find.{Place, at, nowhere}

-- c is one of them: U+202A to U+202E, U+2066 to U+2069
abbrev pub hidden : (c : ℕ) → Bool
hidden c = or (within 0x202A 0x202E c) (within 0x2066 0x2069 c)

-- where the first one of some characters stands, in bytes, where the first character stands at place p
abbrev pub mark_from : (p : ℕ) → List ℕ → Place
mark_from p [] = nowhere
mark_from p (c ∷ cs) = pick (hidden c) (at p) (mark_from (p + width c) cs)

-- WHERE THE FIRST ONE OF A TEXT STANDS (refusal 11)
abbrev pub hidden_mark : (s : List ℕ) → Place
hidden_mark s = mark_from 0 (chars s)

-- none is among the characters: what the laws say of keys
abbrev pub no_marks : List ℕ → Bool
no_marks cs = all (λ c. not (hidden c)) cs
