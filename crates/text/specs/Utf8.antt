-- RFC 3629: the sequence of bytes at the front of a text. Section 4 has the grammar, row by row; section 3 the value of a sequence.
-- Document 02, W2: where the bytes are no sequence, the row says why. Each row goes byte by byte from the left.
use Rattle.std.specs.Prelude.{ℕ, ◌+◌, ◌-◌, ◌*◌, List, [], ◌∷◌, Result, Ok, Err}
use Rattle.basics.specs.Choice.{pick}
use Rattle.basics.specs.Tests.{within}
use Rattle.refusal.specs.declared.Cause.{Cause}
use Rattle.refusal.specs.declared.Cause.TheVariants.{Start, Cut, Follow}
use Rattle.text.specs.declared.Decoded.{Decoded}
use Rattle.text.specs.declared.Decoded.TheVariants.{Char, End, Ill}

-- a byte from low to high has to come next. Where it does, what follows decides; the text may end before it (2), or another byte stand there (3)
unfoldable pub byte : (low high : ℕ) → List ℕ → (ℕ → List ℕ → Decoded) → Decoded
byte low high [] follows = Ill Cut
byte low high (b ∷ s) follows = pick (within low high b) (follows b s) (Ill Follow)

-- UTF8-tail = %x80-BF
abbrev pub tail : List ℕ → (ℕ → List ℕ → Decoded) → Decoded
tail s follows = byte 0x80 0xBF s follows

-- section 3: the bits that each byte of a sequence carries
abbrev pub value2 : ℕ → ℕ → ℕ
value2 a b = (a - 0xC0) * 0x40 + (b - 0x80)

abbrev pub value3 : ℕ → ℕ → ℕ → ℕ
value3 a b c = (a - 0xE0) * 0x1000 + (b - 0x80) * 0x40 + (c - 0x80)

abbrev pub value4 : ℕ → ℕ → ℕ → ℕ → ℕ
value4 a b c d = (a - 0xF0) * 0x40000 + (b - 0x80) * 0x1000 + (c - 0x80) * 0x40 + (d - 0x80)

-- after the first byte a: a second byte from low to high, and as many tails as the sequence has
unfoldable pub two : ℕ → ℕ → ℕ → List ℕ → Decoded
two a low high s = byte low high s (λ b _. Char (value2 a b) 2)

unfoldable pub three : ℕ → ℕ → ℕ → List ℕ → Decoded
three a low high s = byte low high s (λ b s. tail s (λ c _. Char (value3 a b c) 3))

unfoldable pub four : ℕ → ℕ → ℕ → List ℕ → Decoded
four a low high s = byte low high s (λ b s. tail s (λ c s. tail s (λ d _. Char (value4 a b c d) 4)))

-- section 4: the rows of UTF8-1, UTF8-2, UTF8-3 and UTF8-4 by their first byte; no other byte starts a sequence (1)
unfoldable pub lead : ℕ → List ℕ → Decoded
lead a s =
    pick (within 0x00 0x7F a) (Char a 1)
    (pick (within 0xC2 0xDF a) (two a 0x80 0xBF s)
    (pick (within 0xE0 0xE0 a) (three a 0xA0 0xBF s)
    (pick (within 0xE1 0xEC a) (three a 0x80 0xBF s)
    (pick (within 0xED 0xED a) (three a 0x80 0x9F s)
    (pick (within 0xEE 0xEF a) (three a 0x80 0xBF s)
    (pick (within 0xF0 0xF0 a) (four a 0x90 0xBF s)
    (pick (within 0xF1 0xF3 a) (four a 0x80 0xBF s)
    (pick (within 0xF4 0xF4 a) (four a 0x80 0x8F s)
    (Ill Start)))))))))

-- the character at the front of a text
unfoldable pub decoded : List ℕ → Decoded
decoded [] = End
decoded (a ∷ s) = lead a s

-- what the code finds after a first byte, a character and its bytes or why there is none, as what stands at a position
abbrev pub as_decoded : Result (ℕ × ℕ) Cause → Decoded
as_decoded (Ok (c, w)) = Char c w
as_decoded (Err cause) = Ill cause
