-- The shebang (000's strip_shebang).
use Rattle.std.specs.Prelude.{ℕ, ◌+◌, List, [], ◌∷◌, Bool, false, get_or, eqb}
use Rattle.basics.specs.Choice.{pick, and, or}
use Rattle.eaters.specs.Find.{Place, at, nowhere}
use Rattle.text.specs.Chars.{width}
use Rattle.token.specs.declared.TokenKind.{TokenKind}
use Rattle.token.specs.declared.TokenKind.TheVariants as kind
use Rattle.token.specs.Names.{is, 'newline', 'carriage_return', '!', '#'}
use Rattle.token.specs.Lists.{Lists}
use Rattle.token.specs.Kinds.{kind_number}
use Rattle.token.specs.Trivia.{is_trivia}
use Rattle.token.specs.Tokens.{Piece, tokens}

-- the first kind that is not trivia; Eof if there is none
abbrev pub meaningful : List Piece → TokenKind
meaningful [] = kind.Eof
meaningful (t ∷ ts) = pick (is_trivia t.kind) (meaningful ts) t.kind

-- the bytes of the first line: it ends before LF and before CR LF
unfoldable pub line_bytes : List ℕ → ℕ
line_bytes [] = 0
line_bytes (c ∷ cs) = pick (or (is 'newline' c) (and (is 'carriage_return' c) (is 'newline' (get_or cs 0 0)))) 0 (width c + line_bytes cs)

-- a kind is the opening bracket
abbrev pub is_bracket : TokenKind → Bool
is_bracket k = eqb (kind_number k) (kind_number kind.OpenBracket)

-- the first token that is not trivia is an opening bracket
abbrev pub bracketed : Lists → List ℕ → Bool
bracketed L cs = is_bracket (meaningful (tokens L false cs))

-- after #!: none if an opening bracket follows, else the line
abbrev pub after_mark : Lists → List ℕ → Place
after_mark L cs = pick (bracketed L cs) nowhere (at (2 + line_bytes cs))

-- where the shebang ends, if there is one
unfoldable pub shebang : Lists → List ℕ → Place
shebang L [] = nowhere
shebang L (a ∷ []) = nowhere
shebang L (a ∷ b ∷ cs) = pick (and (is '#' a) (is '!' b)) (after_mark L cs) nowhere
