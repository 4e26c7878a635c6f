-- The characters of a text, and the bytes of characters.
use Rattle.std.specs.Prelude.{ℕ, zero, suc, ◌+◌, ◌/◌, ◌%◌, ◌≤◌, ◌<◌, pred, ◌≡◌, ◌⊎◌, List, [], ◌∷◌, ◌++◌, length, ltb}
use Rattle.basics.specs.Choice.{pick}
use Rattle.text.specs.declared.Decoded.TheVariants.{Char, End, Ill}
use Rattle.text.specs.Utf8.{decoded}

-- the characters after the next `skip` bytes, up to the end or the first ill-formed sequence
unfoldable pub chars_after : (skip : ℕ) → List ℕ → List ℕ
chars_after zero [] = []
chars_after (suc k) [] = []
chars_after (suc k) (a ∷ s) = chars_after k s
chars_after zero (a ∷ s) = elim (decoded (a ∷ s)) [ Char c w ↦ c ∷ chars_after (pred w) s | End ↦ [] | Ill cause ↦ [] ]

abbrev pub chars : List ℕ → List ℕ
chars s = chars_after 0 s

-- RFC 3629 section 3: the bytes that a character takes
unfoldable pub width : ℕ → ℕ
width c = pick (ltb c 0x80) 1 (pick (ltb c 0x800) 2 (pick (ltb c 0x10000) 3 4))

abbrev pub size : List ℕ → ℕ
size [] = 0
size (c ∷ cs) = width c + size cs

-- RFC 3629 section 3: the bytes of a character
unfoldable pub encode_one : ℕ → List ℕ
encode_one c =
    pick (ltb c 0x80) (c ∷ [])
    (pick (ltb c 0x800) ((0xC0 + c / 0x40) ∷ (0x80 + c % 0x40) ∷ [])
    (pick (ltb c 0x10000) ((0xE0 + c / 0x1000) ∷ (0x80 + c / 0x40 % 0x40) ∷ (0x80 + c % 0x40) ∷ [])
    ((0xF0 + c / 0x40000) ∷ (0x80 + c / 0x1000 % 0x40) ∷ (0x80 + c / 0x40 % 0x40) ∷ (0x80 + c % 0x40) ∷ [])))

unfoldable pub encode : List ℕ → List ℕ
encode [] = []
encode (c ∷ cs) = encode_one c ++ encode cs

-- a Unicode scalar value: any code point but the surrogates
abbrev pub Scalar : ℕ → Type 0
Scalar c = (c < 0xD800) ⊎ ((0xE000 ≤ c) × (c < 0x110000))

pub data Scalars : List ℕ → Type 0 where
  nil : Scalars []
  cons : {c : ℕ} {cs : List ℕ} → Scalar c → Scalars cs → Scalars (c ∷ cs)

-- the characters of a well-formed text take all of its bytes
abbrev pub WellFormed : List ℕ → Type 0
WellFormed s = size (chars s) ≡ length s
