-- The shape of a kind: what the kind holds, or, for the others, its number in the order of 000. The one table over the kinds: other definitions go by shape.
use Rattle.std.specs.Prelude.{ℕ, Bool, Option}
use Rattle.token.specs.declared.DocStyle.{DocStyle}
use Rattle.token.specs.declared.LiteralKind.{LiteralKind}
use Rattle.token.specs.declared.TokenKind.{TokenKind}
use Rattle.token.specs.declared.TokenKind.TheVariants.{LineComment, BlockComment, Whitespace, Frontmatter, Ident, InvalidIdent, RawIdent, ForcedKeywordIdent, UnknownPrefix, UnknownPrefixLifetime, RawLifetime, GuardedStrPrefix, Literal, Lifetime, Semi, Comma, Dot, OpenParen, CloseParen, OpenBrace, CloseBrace, OpenBracket, CloseBracket, At, Pound, Tilde, Question, Colon, Dollar, Eq, Bang, Lt, Gt, Minus, And, Or, Plus, Star, Slash, Caret, Percent, Unknown, Eof}

pub data Shape : Type 0 where
  line : Option DocStyle → Shape
  block : Option DocStyle → (terminated : Bool) → Shape
  white : Shape
  front : (whitespaceBefore badInfostring : Bool) → Shape
  lit : LiteralKind → (suffixStart : ℕ) → Shape
  life : (startsWithNumber : Bool) → Shape
  bare : (number : ℕ) → Shape

abbrev pub shape_of : TokenKind → Shape
shape_of (LineComment d) = line d
shape_of (BlockComment d t) = block d t
shape_of Whitespace = white
shape_of (Frontmatter a b) = front a b
shape_of Ident = bare 4
shape_of InvalidIdent = bare 5
shape_of RawIdent = bare 6
shape_of ForcedKeywordIdent = bare 7
shape_of UnknownPrefix = bare 8
shape_of UnknownPrefixLifetime = bare 9
shape_of RawLifetime = bare 10
shape_of GuardedStrPrefix = bare 11
shape_of (Literal l n) = lit l n
shape_of (Lifetime b) = life b
shape_of Semi = bare 14
shape_of Comma = bare 15
shape_of Dot = bare 16
shape_of OpenParen = bare 17
shape_of CloseParen = bare 18
shape_of OpenBrace = bare 19
shape_of CloseBrace = bare 20
shape_of OpenBracket = bare 21
shape_of CloseBracket = bare 22
shape_of At = bare 23
shape_of Pound = bare 24
shape_of Tilde = bare 25
shape_of Question = bare 26
shape_of Colon = bare 27
shape_of Dollar = bare 28
shape_of Eq = bare 29
shape_of Bang = bare 30
shape_of Lt = bare 31
shape_of Gt = bare 32
shape_of Minus = bare 33
shape_of And = bare 34
shape_of Or = bare 35
shape_of Plus = bare 36
shape_of Star = bare 37
shape_of Slash = bare 38
shape_of Caret = bare 39
shape_of Percent = bare 40
shape_of Unknown = bare 41
shape_of Eof = bare 42
