-- The lines of the tokens of a text, with frontmatter off (document 01, the small program): a line a token, and none for Eof.
use Rattle.std.specs.Prelude.{ℕ, ◌+◌, ◌-◌, false, List, [], ◌∷◌, ltb, length}
use Rattle.basics.specs.Choice.{pick}
use Rattle.token.specs.declared.Token.{Token}
use Rattle.token.specs.Lists.{Lists}
use Rattle.lexer.specs.Scans.{records_from}
use Rattle.puts.specs.Joined.{joined}
use Rattle.token_line.specs.Line.{line}

-- the tokens of a text from a position on
abbrev pub tokens_from : Lists → (s : List ℕ) (at : ℕ) → List Token
tokens_from L s at = records_from L s at false

-- the line of a token
abbrev pub line_of : Token → List ℕ
line_of t = line t.kind t.len

-- the lines of tokens, one after the other
abbrev pub lines_of : List Token → List ℕ
lines_of ts = joined line_of ts

-- the bytes of tokens
abbrev pub bytes : List Token → ℕ
bytes [] = 0
bytes (t ∷ ts) = t.len + bytes ts

abbrev pub lines_from : Lists → (s : List ℕ) (at : ℕ) → List ℕ
lines_from L s at = lines_of (tokens_from L s at)

-- the first tokens whose lines are put into `room` bytes: as long as the longest line, of 33 bytes, would fit
abbrev pub fitting : (room : ℕ) → List Token → List Token
fitting room [] = []
fitting room (t ∷ ts) = pick (ltb room 33) [] (t ∷ fitting (room - length (line_of t)) ts)
