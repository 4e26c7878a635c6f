-- Broken tokens (document 01, "The key"): a literal that does not end or has no hash count, and a block comment that does not end.
use Rattle.std.specs.Prelude.{ℕ, Bool, true, false, not, Option, None, Some}
use Rattle.token.specs.declared.LiteralKind.{LiteralKind}
use Rattle.token.specs.declared.LiteralKind.TheVariants.{Int, Float, Char, Byte, Str, ByteStr, CStr, RawStr, RawByteStr, RawCStr}
use Rattle.token.specs.declared.TokenKind.{TokenKind}
use Rattle.token.specs.Shapes.{Shape, line, block, white, front, lit, life, bare, shape_of}

-- a raw string has no hash count: it begins badly, does not end, or has more than 255 hashes
abbrev pub no_count : Option ℕ → Bool
no_count (Some n) = false
no_count None = true

abbrev pub broken_literal : LiteralKind → Bool
broken_literal (Int a b) = false
broken_literal (Float a b) = false
broken_literal (Char terminated) = not terminated
broken_literal (Byte terminated) = not terminated
broken_literal (Str terminated) = not terminated
broken_literal (ByteStr terminated) = not terminated
broken_literal (CStr terminated) = not terminated
broken_literal (RawStr hashes) = no_count hashes
broken_literal (RawByteStr hashes) = no_count hashes
broken_literal (RawCStr hashes) = no_count hashes

abbrev pub shape_broken : Shape → Bool
shape_broken (line d) = false
shape_broken (block d terminated) = not terminated
shape_broken white = false
shape_broken (front a b) = false
shape_broken (lit l n) = broken_literal l
shape_broken (life b) = false
shape_broken (bare n) = false

abbrev pub is_broken : TokenKind → Bool
is_broken k = shape_broken (shape_of k)
