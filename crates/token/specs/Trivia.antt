-- Trivia (document 01, "The key"): whitespace, and comments that are not doc comments.
use Rattle.std.specs.Prelude.{Bool, true, false, Option, None, Some}
use Rattle.token.specs.declared.DocStyle.{DocStyle}
use Rattle.token.specs.declared.TokenKind.{TokenKind}
use Rattle.token.specs.Shapes.{Shape, line, block, white, front, lit, life, bare, shape_of}

abbrev pub is_plain : Option DocStyle → Bool
is_plain (Some d) = false
is_plain None = true

abbrev pub shape_trivia : Shape → Bool
shape_trivia (line d) = is_plain d
shape_trivia (block d t) = is_plain d
shape_trivia white = true
shape_trivia (front a b) = false
shape_trivia (lit l n) = false
shape_trivia (life b) = false
shape_trivia (bare n) = false

abbrev pub is_trivia : TokenKind → Bool
is_trivia k = shape_trivia (shape_of k)
