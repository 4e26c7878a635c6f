-- The kind of a token as one number: its number in the order of 000, and above it what it holds, but for the start of a suffix.
use Rattle.std.specs.Prelude.{ℕ, ◌+◌, ◌*◌, Bool, true, false, Option, None, Some}
use Rattle.token.specs.declared.DocStyle.{DocStyle}
use Rattle.token.specs.declared.DocStyle.TheVariants.{Outer, Inner}
use Rattle.token.specs.declared.Base.{Base}
use Rattle.token.specs.declared.Base.TheVariants.{Binary, Octal, Decimal, Hexadecimal}
use Rattle.token.specs.declared.LiteralKind.{LiteralKind}
use Rattle.token.specs.declared.LiteralKind.TheVariants.{Int, Float, Char, Byte, Str, ByteStr, CStr, RawStr, RawByteStr, RawCStr}
use Rattle.token.specs.declared.TokenKind.{TokenKind}
use Rattle.token.specs.Shapes.{Shape, line, block, white, front, lit, life, bare, shape_of}
use Rattle.token.specs.Kinds.{kind_number}

abbrev pub bit : Bool → ℕ
bit false = 0
bit true = 1

abbrev pub doc_code : Option DocStyle → ℕ
doc_code None = 0
doc_code (Some Outer) = 1
doc_code (Some Inner) = 2

abbrev pub base_code : Base → ℕ
base_code Binary = 0
base_code Octal = 1
base_code Decimal = 2
base_code Hexadecimal = 3

abbrev pub hash_code : Option ℕ → ℕ
hash_code None = 0
hash_code (Some n) = n + 1

abbrev pub literal_number : LiteralKind → ℕ
literal_number (Int b e) = 0
literal_number (Float b e) = 1
literal_number (Char t) = 2
literal_number (Byte t) = 3
literal_number (Str t) = 4
literal_number (ByteStr t) = 5
literal_number (CStr t) = 6
literal_number (RawStr n) = 7
literal_number (RawByteStr n) = 8
literal_number (RawCStr n) = 9

abbrev pub literal_detail : LiteralKind → ℕ
literal_detail (Int b e) = base_code b + 4 * bit e
literal_detail (Float b e) = base_code b + 4 * bit e
literal_detail (Char t) = bit t
literal_detail (Byte t) = bit t
literal_detail (Str t) = bit t
literal_detail (ByteStr t) = bit t
literal_detail (CStr t) = bit t
literal_detail (RawStr n) = hash_code n
literal_detail (RawByteStr n) = hash_code n
literal_detail (RawCStr n) = hash_code n

abbrev pub literal_code : LiteralKind → ℕ
literal_code k = literal_number k + 16 * literal_detail k

-- what a kind holds, but for the start of a suffix
abbrev pub shape_detail : Shape → ℕ
shape_detail (line d) = doc_code d
shape_detail (block d t) = doc_code d + 4 * bit t
shape_detail white = 0
shape_detail (front a b) = bit a + 2 * bit b
shape_detail (lit l n) = literal_code l
shape_detail (life b) = bit b
shape_detail (bare n) = 0

abbrev pub detail : TokenKind → ℕ
detail k = shape_detail (shape_of k)

abbrev pub kind_code : TokenKind → ℕ
kind_code k = kind_number k + 64 * detail k

-- where the suffix of a literal starts; 0 for every other kind
abbrev pub shape_suffix : Shape → ℕ
shape_suffix (line d) = 0
shape_suffix (block d t) = 0
shape_suffix white = 0
shape_suffix (front a b) = 0
shape_suffix (lit l n) = n
shape_suffix (life b) = 0
shape_suffix (bare n) = 0

abbrev pub suffix_of : TokenKind → ℕ
suffix_of k = shape_suffix (shape_of k)
