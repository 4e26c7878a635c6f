-- What the letters r, k, b and c begin (000's arms for them, and c_or_byte_string), after the letter.
use Rattle.std.specs.Prelude.{ℕ, Bool, Option}
use Rattle.eaters.specs.Eat.{Eater, give, eat, ◌>>◌}
use Rattle.eaters.specs.Look.{if_at, if_two, if_eat}
use Rattle.token.specs.declared.LiteralKind.{LiteralKind}
use Rattle.token.specs.declared.LiteralKind.TheVariants.{Byte, ByteStr, RawStr, RawByteStr}
use Rattle.token.specs.declared.TokenKind.{TokenKind}
use Rattle.token.specs.declared.TokenKind.TheVariants.{RawIdent, ForcedKeywordIdent}
use Rattle.token.specs.Names.{is, '#', 'double', 'single', 'r'}
use Rattle.token.specs.Lists.{Lists, starting}
use Rattle.token.specs.Literals.{identifier, literal}
use Rattle.token.specs.Words.{ident_or_unknown_prefix}
use Rattle.token.specs.Quotes.{double_quoted, single_quoted}
use Rattle.token.specs.Punctuation.{hash_or_quote}
use Rattle.token.specs.RawStrings.{raw_string}

-- a hash and the identifier after it
abbrev pub hashed : Lists → TokenKind → Eater TokenKind
hashed L kind = eat 1 >> identifier L >> give kind

-- r# and the start of an identifier: a raw identifier; r# or r": a raw string
abbrev pub after_r : Lists → Eater TokenKind
after_r L =
    if_two (is '#') (starting L) (hashed L RawIdent)
    (if_at hash_or_quote (literal L 1 (raw_string RawStr)) (ident_or_unknown_prefix L))

-- k# and the start of an identifier: a forced keyword
abbrev pub after_k : Lists → Eater TokenKind
after_k L = if_two (is '#') (starting L) (hashed L ForcedKeywordIdent) (ident_or_unknown_prefix L)

-- a quote: a string; r and a hash or a quote: a raw string
abbrev pub after_c : Lists → (Bool → LiteralKind) → (Option ℕ → LiteralKind) → Eater TokenKind
after_c L string raw =
    if_eat (is 'double') (literal L 2 (double_quoted string))
    (if_two (is 'r') hash_or_quote (eat 1 >> literal L 2 (raw_string raw)) (ident_or_unknown_prefix L))

-- the same, and a single quote: a byte
abbrev pub after_b : Lists → Eater TokenKind
after_b L = if_eat (is 'single') (literal L 2 (single_quoted Byte)) (after_c L ByteStr RawByteStr)
