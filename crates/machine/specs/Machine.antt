-- The key of a text, character by character: a machine that reads the characters from the left, each of them once, and looks at none ahead.
-- It writes what is known of the key (document 01, "The key"); it holds back at most the three characters that decide whether a comment is a doc comment.
-- Tokens are those of the book (`token/specs`), frontmatter off; each step below names the rule of the book that it belongs to. Places are counted in bytes.
-- That the machine gives the key of the book's tokens is proved: `proofs/Runs`, and over a whole text `proofs/Cut`.
use Rattle.std.specs.Prelude.{ℕ, zero, suc, ◌+◌, List, [], ◌∷◌, ◌++◌, Bool, true, false, not, ltb}
use Rattle.basics.specs.Choice.{pick, and, or}
use Rattle.text.specs.Chars.{width}
use Rattle.classes.specs.Identifiers.{digit}
use Rattle.classes.specs.Whitespace.{is_whitespace}
use Rattle.token.specs.Names.{is, 'newline', '!', 'double', '#', 'single', '*', '+', '-', 'dot', '/', '0', 'E', '\', 'b', 'c', 'e', 'k', 'o', 'r', 'x'}
use Rattle.token.specs.Lists.{Lists, starting, going, smiling}
use Rattle.token.specs.Words.{in_invalid}
use Rattle.token.specs.Numbers.{hex_digit, decimals, hexadecimals}
use Rattle.token.specs.Lifetimes.{naming}
use Rattle.token.specs.Punctuation.{symbols, is_symbol, hash_or_quote}
use Rattle.machine.specs.declared.Mode.{Mode}
use Rattle.machine.specs.declared.Mode.TheVariants.{Start, OneSlash, TwoSlashes, ThreeSlashes, SlashStar, SlashStars, DocLine, PlainLine, Block, InWord, InBadWord, InName, Suffix, InString, StringEscape, Broken, GotR, GotRHash, GotK, GotNameHash, GotB, GotC, GotBR, GotHash, GotQuote, GotByteQuote, GotQuotes, WantsQuote, QuotedName, InLifetime, InQuotes, QuotesEscape, RawHashes, RawBody, RawEnd, GotZero, InDigits, InBased, InHex, GotDot, InFraction, GotE, InExponent}
use Rattle.machine.specs.declared.Last.{Last}
use Rattle.machine.specs.declared.Last.TheVariants.{PlainChar, ASlash, AStar}

-- what a text comes to: the characters of its key, or the place of its first broken token. A type of its own, and not the code's Result: the theorems of the key
-- speak of it (proofs/Cut: `whole_text`, `one_shot_lem`), and no function of this crate gives it.
pub data Result : Type 0 where
  ok : (key : List ℕ) → Result
  bad : (place : ℕ) → Result

-- characters that are written before the rest of a key
abbrev pub put : List ℕ → Result → Result
put u (ok v) = ok (u ++ v)
put u (bad n) = bad n

-- what one character does: what is written, the mode after it, and where the token that it belongs to starts
pub record Next : Type 0 where
  pub out : List ℕ
  pub mode : Mode
  pub from : ℕ

-- the character is written
abbrev pub taken : (c : ℕ) → Mode → (from : ℕ) → Next
taken c m st = record { out = c ∷ []; mode = m; from = st }

-- nothing is written
abbrev pub silent : Mode → (from : ℕ) → Next
silent m st = record { out = []; mode = m; from = st }

-- what was held back is written before
abbrev pub preceded : List ℕ → Next → Next
preceded u n = record { out = u ++ n.out; mode = n.mode; from = n.from }

-- what trivia writes: one newline for a run of it (gap: it stands there already)
abbrev pub gap_out : (gap : Bool) → List ℕ
gap_out true = []
gap_out false = 'newline' ∷ []

-- Below, st is where the token that is begun starts, p is the place of the character c, and r says whether trivia stands right before.

-- A TOKEN BEGINS, with no slash and no whitespace (Advance: `plain`, in its order)
unfoldable pub at_other : Lists → (p c : ℕ) → Next
at_other L p c =
    pick (is 'r' c) (taken c GotR p)
    (pick (is 'k' c) (taken c GotK p)
    (pick (is 'b' c) (taken c GotB p)
    (pick (is 'c' c) (taken c GotC p)
    (pick (starting L c) (taken c InWord p)
    (pick (digit c) (taken c (pick (is '0' c) GotZero InDigits) p)
    (pick (is '#' c) (taken c GotHash p)
    (pick (is_symbol symbols c) (taken c (Start false) p)
    (pick (is 'single' c) (taken c GotQuote p)
    (pick (is 'double' c) (taken c InString p)
    (pick (smiling L c) (taken c InBadWord p)
    (taken c (Start false) p)))))))))))

-- A TOKEN BEGINS (Advance: `plain`): a slash is held back (Comments: `slash`), whitespace is trivia
unfoldable pub at_start : Lists → (p : ℕ) (gap : Bool) (c : ℕ) → Next
at_start L p r c = pick (is '/' c) (silent (OneSlash r) p) (pick (is_whitespace c) (record { out = gap_out r; mode = Start true; from = p }) (at_other L p c))

-- after a literal: a suffix (Literals: `identifier`), or the next token
abbrev pub at_suffix : Lists → (st p c : ℕ) → Next
at_suffix L st p c = pick (starting L c) (taken c InName st) (at_start L p false c)

-- a character of a block comment that may be the first of a pair
abbrev pub last_of : ℕ → Last
last_of c = pick (is '/' c) ASlash (pick (is '*' c) AStar PlainChar)

-- a character of a comment: a doc comment is written
abbrev pub doc_out : (doc : Bool) (c : ℕ) → List ℕ
doc_out true c = c ∷ []
doc_out false c = []

-- the mode after a character c of a block comment at depth suc d (Comments: `block_turn`); where it ends, it was trivia unless it is a doc comment
abbrev pub in_block : (doc : Bool) (depth : ℕ) → Last → (c : ℕ) → Mode
in_block doc d PlainChar c = Block doc d (last_of c)
in_block doc d ASlash c = pick (is '*' c) (Block doc (suc d) PlainChar) (Block doc d (last_of c))
in_block doc zero AStar c = pick (is '/' c) (Start (not doc)) (Block doc zero (last_of c))
in_block doc (suc d) AStar c = pick (is '/' c) (Block doc d PlainChar) (Block doc (suc d) (last_of c))

-- in a block comment
abbrev pub at_block : (doc : Bool) (depth : ℕ) → Last → (st c : ℕ) → Next
at_block doc d l st c = record { out = doc_out doc c; mode = in_block doc d l c; from = st }

-- in a line comment (Comments: `line_comment`): a doc comment, and one that is none; a newline ends it, and begins a token
abbrev pub at_doc : Lists → (st p c : ℕ) → Next
at_doc L st p c = pick (is 'newline' c) (at_start L p false c) (taken c DocLine st)

abbrev pub at_plain : Lists → (st p c : ℕ) → Next
at_plain L st p c = pick (is 'newline' c) (at_start L p true c) (silent PlainLine st)

-- in an identifier (Words: `ident_or_unknown_prefix`)
abbrev pub at_ident : Lists → (st p c : ℕ) → Next
at_ident L st p c = pick (going L c) (taken c InWord st) (pick (smiling L c) (taken c InBadWord st) (at_start L p false c))

-- the sign of an exponent, and the letter that begins one (Numbers: `sign`, `maybe_exponent`)
abbrev pub sign_mark : ℕ → Bool
sign_mark c = or (is '-' c) (is '+' c)

abbrev pub exponent_mark : ℕ → Bool
exponent_mark c = or (is 'e' c) (is 'E' c)

-- after the digits of a number (Numbers: `fraction`)
abbrev pub at_fraction : Lists → (st p c : ℕ) → Next
at_fraction L st p c = pick (is 'dot' c) (taken c GotDot st) (pick (exponent_mark c) (taken c GotE st) (at_suffix L st p c))

-- in the digits of an exponent (Numbers: `exponent`)
abbrev pub at_exponent : Lists → (st p c : ℕ) → Next
at_exponent L st p c = pick (decimals c) (taken c InExponent st) (at_suffix L st p c)

-- in single quotes, at the first character (Quotes: `single`)
abbrev pub at_quoted : (st c : ℕ) → Next
at_quoted st c = pick (is 'single' c) (taken c GotQuotes st) (pick (or (is '/' c) (is 'newline' c)) (taken c WantsQuote st) (pick (is '\' c) (taken c QuotesEscape st) (taken c InQuotes st)))

-- in a lifetime (Lifetimes: `lifetime_rest`)
abbrev pub at_life : Lists → (st p c : ℕ) → Next
at_life L st p c = pick (going L c) (taken c InLifetime st) (pick (is 'single' c) (taken c (Start false) st) (at_start L p false c))

-- of the n hashes that close a raw string, j are still to come; more than 255 make it broken (RawStrings: `raw_end`)
abbrev pub raw_at : (n j : ℕ) → Mode
raw_at n zero = pick (ltb n 256) Suffix Broken
raw_at n (suc j) = RawEnd n j

-- in a raw string of n hashes (RawStrings: `raw_rest`)
abbrev pub at_raw : (st n c : ℕ) → Next
at_raw st n c = pick (is 'double' c) (taken c (raw_at n n) st) (taken c (RawBody n) st)

-- ONE CHARACTER, in each mode
abbrev pub step : Lists → (st p : ℕ) → Mode → (c : ℕ) → Next
step L st p (Start r) c = at_start L p r c
-- Comments: `slash`, `line_comment`, `block_comment`
step L st p (OneSlash r) c = pick (is '/' c) (silent (TwoSlashes r) st) (pick (is '*' c) (silent (SlashStar r) st) (preceded ('/' ∷ []) (at_start L p false c)))
step L st p (TwoSlashes r) c = pick (is '!' c) (preceded ('/' ∷ '/' ∷ []) (taken c DocLine st)) (pick (is '/' c) (silent (ThreeSlashes r) st) (preceded (gap_out r) (at_plain L st p c)))
step L st p (ThreeSlashes r) c = pick (is '/' c) (preceded (gap_out r) (silent PlainLine st)) (preceded ('/' ∷ '/' ∷ '/' ∷ []) (at_doc L st p c))
step L st p (SlashStar r) c = pick (is '!' c) (preceded ('/' ∷ '*' ∷ []) (at_block true 0 PlainChar st c)) (pick (is '*' c) (silent (SlashStars r) st) (preceded (gap_out r) (at_block false 0 PlainChar st c)))
step L st p (SlashStars r) c = pick (or (is '*' c) (is '/' c)) (preceded (gap_out r) (at_block false 0 AStar st c)) (preceded ('/' ∷ '*' ∷ '*' ∷ []) (at_block true 0 AStar st c))
step L st p DocLine c = at_doc L st p c
step L st p PlainLine c = at_plain L st p c
step L st p (Block doc d l) c = at_block doc d l st c
-- Words: `ident_or_unknown_prefix`, `invalid_ident`; Literals: `identifier`
step L st p InWord c = at_ident L st p c
step L st p InBadWord c = pick (in_invalid L c) (taken c InBadWord st) (at_start L p false c)
step L st p InName c = pick (going L c) (taken c InName st) (at_start L p false c)
step L st p Suffix c = at_suffix L st p c
-- Quotes: `double_quoted`
step L st p InString c = pick (is 'double' c) (taken c Suffix st) (pick (is '\' c) (taken c StringEscape st) (taken c InString st))
step L st p StringEscape c = taken c InString st
-- a broken token (Broken: `is_broken`)
step L st p Broken c = silent Broken st
-- Prefixed: `after_r`, `after_k`, `after_b`, `after_c`; Punctuation: `pound`
step L st p GotR c = pick (is '#' c) (taken c GotRHash st) (pick (is 'double' c) (taken c (RawBody 0) st) (at_ident L st p c))
step L st p GotRHash c = pick (starting L c) (taken c InName st) (pick (is '#' c) (taken c (RawHashes 2) st) (pick (is 'double' c) (taken c (RawBody 1) st) (silent Broken st)))
step L st p GotK c = pick (is '#' c) (taken c GotNameHash st) (at_ident L st p c)
step L st p GotNameHash c = pick (starting L c) (taken c InName st) (pick (hash_or_quote c) (taken c (Start false) st) (at_start L p false c))
step L st p GotB c = pick (is 'single' c) (taken c GotByteQuote st) (pick (is 'double' c) (taken c InString st) (pick (is 'r' c) (taken c GotBR st) (at_ident L st p c)))
step L st p GotC c = pick (is 'double' c) (taken c InString st) (pick (is 'r' c) (taken c GotBR st) (at_ident L st p c))
step L st p GotBR c = pick (is 'double' c) (taken c (RawBody 0) st) (pick (is '#' c) (taken c (RawHashes 1) st) (at_ident L st p c))
step L st p GotHash c = pick (hash_or_quote c) (taken c (Start false) st) (at_start L p false c)
-- Lifetimes: `lifetime_or_char`; Quotes: `single_quoted`
step L st p GotQuote c = pick (naming L c) (taken c (QuotedName (is 'r' c)) st) (at_quoted st c)
step L st p GotByteQuote c = at_quoted st c
step L st p GotQuotes c = pick (is 'single' c) (taken c Suffix st) (at_suffix L st p c)
step L st p WantsQuote c = pick (is 'single' c) (taken c Suffix st) (silent Broken st)
step L st p (QuotedName r) c = pick (is 'single' c) (taken c Suffix st) (pick (and r (is '#' c)) (taken c GotNameHash st) (at_life L st p c))
step L st p InLifetime c = at_life L st p c
step L st p InQuotes c = pick (is 'single' c) (taken c Suffix st) (pick (is '/' c) (silent Broken st) (pick (is 'newline' c) (taken c WantsQuote st) (pick (is '\' c) (taken c QuotesEscape st) (taken c InQuotes st))))
step L st p QuotesEscape c = taken c InQuotes st
-- RawStrings: `raw_string`
step L st p (RawHashes n) c = pick (is '#' c) (taken c (RawHashes (suc n)) st) (pick (is 'double' c) (taken c (RawBody n) st) (silent Broken st))
step L st p (RawBody n) c = at_raw st n c
step L st p (RawEnd n j) c = pick (is '#' c) (taken c (raw_at n j) st) (at_raw st n c)
-- Numbers: `number`, `based`, `decimal`, `fraction`, `exponent`
step L st p GotZero c = pick (or (is 'b' c) (is 'o' c)) (taken c (InBased false) st) (pick (is 'x' c) (taken c (InHex false) st) (pick (decimals c) (taken c InDigits st) (at_fraction L st p c)))
step L st p InDigits c = pick (decimals c) (taken c InDigits st) (at_fraction L st p c)
step L st p (InBased h) c = pick (decimals c) (taken c (InBased (or h (digit c))) st) (pick h (at_fraction L st p c) (at_suffix L st p c))
step L st p (InHex h) c = pick (hexadecimals c) (taken c (InHex (or h (hex_digit c))) st) (pick h (at_fraction L st p c) (at_suffix L st p c))
step L st p GotDot c = pick (or (is 'dot' c) (starting L c)) (at_start L p false c) (pick (digit c) (taken c InFraction st) (at_start L p false c))
step L st p InFraction c = pick (decimals c) (taken c InFraction st) (pick (exponent_mark c) (taken c GotE st) (at_suffix L st p c))
step L st p GotE c = pick (sign_mark c) (taken c InExponent st) (at_exponent L st p c)
step L st p InExponent c = at_exponent L st p c

-- THE END: what is still to be written, or the place of the token that is not ended
abbrev pub finish : (st : ℕ) → Mode → Result
finish st (Start r) = ok []
finish st (OneSlash r) = ok ('/' ∷ [])
finish st (TwoSlashes r) = ok (gap_out r)
finish st (ThreeSlashes r) = ok ('/' ∷ '/' ∷ '/' ∷ [])
finish st (SlashStar r) = bad st
finish st (SlashStars r) = bad st
finish st DocLine = ok []
finish st PlainLine = ok []
finish st (Block doc d l) = bad st
finish st InWord = ok []
finish st InBadWord = ok []
finish st InName = ok []
finish st Suffix = ok []
finish st InString = bad st
finish st StringEscape = bad st
finish st Broken = bad st
finish st GotR = ok []
finish st GotRHash = bad st
finish st GotK = ok []
finish st GotNameHash = ok []
finish st GotB = ok []
finish st GotC = ok []
finish st GotBR = ok []
finish st GotHash = ok []
finish st GotQuote = bad st
finish st GotByteQuote = bad st
finish st GotQuotes = ok []
finish st WantsQuote = bad st
finish st (QuotedName r) = ok []
finish st InLifetime = ok []
finish st InQuotes = bad st
finish st QuotesEscape = bad st
finish st (RawHashes n) = bad st
finish st (RawBody n) = bad st
finish st (RawEnd n j) = bad st
finish st GotZero = ok []
finish st InDigits = ok []
finish st (InBased h) = ok []
finish st (InHex h) = ok []
finish st GotDot = ok []
finish st InFraction = ok []
finish st GotE = ok []
finish st InExponent = ok []

-- THE RESULT of a text, from a mode and a place on
abbrev pub result : Lists → (st p : ℕ) → Mode → List ℕ → Result
result L st p m [] = finish st m
result L st p m (c ∷ cs) = put (step L st p m c).out (result L (step L st p m c).from (p + width c) (step L st p m c).mode cs)
