-- WHAT IS STILL TO COME in each mode (`resume`), in the words of the book: how much is left of the token that was begun, and whether it ends whole.
-- One definition for each mode, or a few alike, with the mode's name in it.
use Prim.Native.Nat.{ℕ, suc, ◌+◌}
use mathlib.Core.List.{List, [], ◌∷◌}
use mathlib.Core.Bool.{Bool, true, false}
use lib.ListN.{length, get_or, drop}
use lib.Dec.{ltb}
use Rattle.basics.specs.Choice.{pick, and, or}
use Rattle.classes.specs.Identifiers.{digit}
use Rattle.eaters.specs.Eat.{Got, take_while}
use Rattle.eaters.specs.Scan.{scan, run, first_with}
use Rattle.token.specs.declared.LiteralKind.TheVariants.{CStr, RawCStr}
use Rattle.token.specs.Names.{is, 'double', '#', 'single', '*', 'dot', '/', '\', 'b', 'o', 'x'}
use Rattle.token.specs.Lists.{Lists, starting, going}
use Rattle.token.specs.Comments.{slash, in_line, line_comment, block_comment, block_turn}
use Rattle.token.specs.Words.{invalid_ident, ident_or_unknown_prefix}
use Rattle.token.specs.Quotes.{double_turn, single_turn, single}
use Rattle.token.specs.Numbers.{hex_digit, decimals, hexadecimals}
use Rattle.token.specs.Lifetimes.{lifetime_or_char}
use Rattle.token.specs.Prefixed.{after_r, after_k, after_c, after_b}
use Rattle.token.specs.Punctuation.{hash_or_quote}
use Rattle.machine.specs.declared.Mode.{Mode}
use Rattle.machine.specs.declared.Mode.TheVariants.{Start, OneSlash, TwoSlashes, ThreeSlashes, SlashStar, SlashStars, DocLine, PlainLine, Block, InWord, InBadWord, InName, Suffix, InString, StringEscape, Broken, GotR, GotRHash, GotK, GotNameHash, GotB, GotC, GotBR, GotHash, GotQuote, GotByteQuote, GotQuotes, WantsQuote, QuotedName, InLifetime, InQuotes, QuotesEscape, RawHashes, RawBody, RawEnd, GotZero, InDigits, InBased, InHex, GotDot, InFraction, GotE, InExponent}
use Rattle.machine.specs.declared.Last.{Last}
use Rattle.machine.specs.declared.Last.TheVariants.{PlainChar, ASlash, AStar}
use Rattle.machine.specs.Machine.{Result, bad, sign_mark, exponent_mark}
use Rattle.machine.proofs.Eating.{more, less, here}
use Rattle.machine.proofs.ByTokens.{judged, key_from, keep, skip, close}

-- in a line comment: up to the newline
abbrev pub line_rest : List ℕ → Got Bool
line_rest cs = record { took = length (take_while in_line cs); said = true }

-- a token that does not end
abbrev pub unended : Got Bool
unended = record { took = 0; said = false }

-- a raw string with 256 hashes or more is broken
abbrev pub capped : ℕ → Got Bool → Got Bool
capped n g = record { took = g.took; said = and g.said (ltb n 256) }

-- after # that begins a token
abbrev pub hash_rest : List ℕ → Got Bool
hash_rest cs = record { took = pick (hash_or_quote (get_or cs 0 0)) 1 0; said = true }

-- in a block comment at depth suc d, by what its last character was
abbrev pub block_rest : ℕ → Last → List ℕ → Got Bool
block_rest d PlainChar cs = scan block_turn 0 (suc d) cs
block_rest d ASlash cs = less (scan block_turn 0 (suc d) ('/' ∷ cs))
block_rest d AStar cs = less (scan block_turn 0 (suc d) ('*' ∷ cs))

module _ (L : Lists) where
  -- in an identifier
  abbrev pub name_rest : List ℕ → Got Bool
  name_rest cs = record { took = length (take_while (going L) cs); said = true }

  -- after a literal: its suffix
  abbrev pub suffix_took : List ℕ → ℕ
  suffix_took [] = 0
  suffix_took (c ∷ cs) = pick (starting L c) (suc (length (take_while (going L) cs))) 0

  abbrev pub suffix_rest : List ℕ → Got Bool
  suffix_rest cs = record { took = suffix_took cs; said = true }

  -- a literal, of which g says where it ends and whether it does: its suffix comes after it
  abbrev pub then_suffix : Got Bool → List ℕ → Got Bool
  then_suffix g cs = pick g.said (record { took = g.took + (suffix_rest (drop g.took cs)).took; said = true }) g

  -- in a string
  abbrev pub string_rest : List ℕ → Got Bool
  string_rest cs = then_suffix (scan double_turn 0 1 cs) cs

  -- in single quotes, where the next character decides: a quote ends it, or else it is g
  abbrev pub closed_or : List ℕ → Got Bool → Got Bool
  closed_or cs g = pick (is 'single' (get_or cs 0 0)) (more (suffix_rest (drop 1 cs))) g

  -- in single quotes, after k more characters
  abbrev pub quotes_rest : ℕ → List ℕ → Got Bool
  quotes_rest k cs = then_suffix (scan single_turn k 1 cs) cs

  -- after the opening quote of a byte
  abbrev pub quoted_rest : List ℕ → Got Bool
  quoted_rest cs = then_suffix (single cs) cs

  -- in a lifetime, up to a quote that ends it
  abbrev pub life_rest : List ℕ → Got Bool
  life_rest [] = here
  life_rest (c ∷ cs) = pick (going L c) (more (life_rest cs)) (pick (is 'single' c) (more here) here)

  -- after 'r: a raw lifetime, or one with that name
  abbrev pub r_name_rest : List ℕ → Got Bool
  r_name_rest cs = pick (and (is '#' (get_or cs 0 0)) (starting L (get_or cs 1 0))) (more (more (name_rest (drop 2 cs)))) (life_rest cs)

  -- after a quote and a character that may begin a name; r: that character is r
  abbrev pub quoted_name_rest : Bool → List ℕ → Got Bool
  quoted_name_rest r cs = closed_or cs (pick r (r_name_rest cs) (life_rest cs))

  -- in a raw string with n hashes
  abbrev pub raw_rest : ℕ → List ℕ → Got Bool
  raw_rest n cs = then_suffix (capped n (first_with 'double' '#' n cs)) cs

  -- in its end, with j hashes to come
  abbrev pub raw_end_rest : ℕ → ℕ → List ℕ → Got Bool
  raw_end_rest n j cs = then_suffix (capped n (pick (run '#' j cs) (record { took = j; said = true }) (first_with 'double' '#' n cs))) cs

  -- before the quote of a raw string, after n hashes
  abbrev pub hashes_rest : ℕ → List ℕ → Got Bool
  hashes_rest n [] = unended
  hashes_rest n (c ∷ cs) = pick (is '#' c) (more (hashes_rest (suc n) cs)) (pick (is 'double' c) (more (raw_rest n cs)) (more unended))

  -- after r#
  abbrev pub r_hash_rest : List ℕ → Got Bool
  r_hash_rest cs = pick (starting L (get_or cs 0 0)) (more (name_rest (drop 1 cs))) (hashes_rest 1 cs)

  -- after br or cr
  abbrev pub br_rest : List ℕ → Got Bool
  br_rest cs = pick (hash_or_quote (get_or cs 0 0)) (hashes_rest 0 cs) (judged (ident_or_unknown_prefix L cs))

  -- after k# or 'r#
  abbrev pub name_hash_rest : List ℕ → Got Bool
  name_hash_rest cs = pick (starting L (get_or cs 0 0)) (more (name_rest (drop 1 cs))) (hash_rest cs)

  -- in the digits of an exponent
  abbrev pub exponent_rest : List ℕ → Got Bool
  exponent_rest [] = here
  exponent_rest (c ∷ cs) = pick (decimals c) (more (exponent_rest cs)) (suffix_rest (c ∷ cs))

  -- after e
  abbrev pub e_rest : List ℕ → Got Bool
  e_rest [] = here
  e_rest (c ∷ cs) = pick (sign_mark c) (more (exponent_rest cs)) (exponent_rest (c ∷ cs))

  -- in the digits after a point
  abbrev pub fraction_rest : List ℕ → Got Bool
  fraction_rest [] = here
  fraction_rest (c ∷ cs) = pick (decimals c) (more (fraction_rest cs)) (pick (exponent_mark c) (more (e_rest cs)) (suffix_rest (c ∷ cs)))

  -- after the digits before a point
  abbrev pub digits_end : List ℕ → Got Bool
  digits_end [] = here
  digits_end (c ∷ cs) = pick (is 'dot' c) (pick (or (is 'dot' (get_or cs 0 0)) (starting L (get_or cs 0 0))) here (more (pick (digit (get_or cs 0 0)) (fraction_rest cs) here))) (pick (exponent_mark c) (more (e_rest cs)) (suffix_rest (c ∷ cs)))

  -- in decimal digits
  abbrev pub digits_rest : List ℕ → Got Bool
  digits_rest [] = here
  digits_rest (c ∷ cs) = pick (decimals c) (more (digits_rest cs)) (digits_end (c ∷ cs))

  -- in digits P of another base, of which those in Q count; h: one that counts came
  abbrev pub based_rest : (ℕ → Bool) → (ℕ → Bool) → Bool → List ℕ → Got Bool
  based_rest P Q h [] = here
  based_rest P Q h (c ∷ cs) = pick (P c) (more (based_rest P Q (or h (Q c)) cs)) (pick h (digits_end (c ∷ cs)) (suffix_rest (c ∷ cs)))

  -- after 0
  abbrev pub zero_rest : List ℕ → Got Bool
  zero_rest [] = here
  zero_rest (c ∷ cs) = pick (or (is 'b' c) (is 'o' c)) (more (based_rest decimals digit false cs)) (pick (is 'x' c) (more (based_rest hexadecimals hex_digit false cs)) (digits_rest (c ∷ cs)))

  -- a doc comment is kept, another one is skipped
  abbrev pub comment_rest : Bool → ℕ → ℕ → Got Bool → List ℕ → Result
  comment_rest true = keep L
  comment_rest false = skip L

  -- WHAT IS TO COME in mode m from the place p on, in a token that began at st
  abbrev pub resume : ℕ → ℕ → Mode → List ℕ → Result
  resume st p (Start r) cs = key_from L 0 p r cs
  resume st p (OneSlash r) cs = close L st p r ('/' ∷ []) (slash cs) cs
  resume st p (TwoSlashes r) cs = close L st p r ('/' ∷ '/' ∷ []) (line_comment cs) cs
  resume st p (ThreeSlashes r) cs = close L st p r ('/' ∷ '/' ∷ '/' ∷ []) (less (line_comment ('/' ∷ cs))) cs
  resume st p (SlashStar r) cs = close L st p r ('/' ∷ '*' ∷ []) (block_comment cs) cs
  resume st p (SlashStars r) cs = close L st p r ('/' ∷ '*' ∷ '*' ∷ []) (less (block_comment ('*' ∷ cs))) cs
  resume st p DocLine cs = keep L st p (line_rest cs) cs
  resume st p PlainLine cs = skip L st p (line_rest cs) cs
  resume st p (Block doc d l) cs = comment_rest doc st p (block_rest d l cs) cs
  resume st p InWord cs = keep L st p (judged (ident_or_unknown_prefix L cs)) cs
  resume st p InBadWord cs = keep L st p (judged (invalid_ident L cs)) cs
  resume st p InName cs = keep L st p (name_rest cs) cs
  resume st p Suffix cs = keep L st p (suffix_rest cs) cs
  resume st p InString cs = keep L st p (string_rest cs) cs
  resume st p StringEscape cs = keep L st p (less (string_rest ('\' ∷ cs))) cs
  resume st p Broken cs = bad st
  resume st p GotR cs = keep L st p (judged (after_r L cs)) cs
  resume st p GotRHash cs = keep L st p (r_hash_rest cs) cs
  resume st p GotK cs = keep L st p (judged (after_k L cs)) cs
  resume st p GotNameHash cs = keep L st p (name_hash_rest cs) cs
  resume st p GotB cs = keep L st p (judged (after_b L cs)) cs
  resume st p GotC cs = keep L st p (judged (after_c L CStr RawCStr cs)) cs
  resume st p GotBR cs = keep L st p (br_rest cs) cs
  resume st p GotHash cs = keep L st p (hash_rest cs) cs
  resume st p GotQuote cs = keep L st p (judged (lifetime_or_char L cs)) cs
  resume st p GotByteQuote cs = keep L st p (quoted_rest cs) cs
  resume st p GotQuotes cs = keep L st p (closed_or cs (suffix_rest cs)) cs
  resume st p WantsQuote cs = keep L st p (closed_or cs unended) cs
  resume st p (QuotedName r) cs = keep L st p (quoted_name_rest r cs) cs
  resume st p InLifetime cs = keep L st p (life_rest cs) cs
  resume st p InQuotes cs = keep L st p (quotes_rest 0 cs) cs
  resume st p QuotesEscape cs = keep L st p (quotes_rest 1 cs) cs
  resume st p (RawHashes n) cs = keep L st p (hashes_rest n cs) cs
  resume st p (RawBody n) cs = keep L st p (raw_rest n cs) cs
  resume st p (RawEnd n j) cs = keep L st p (raw_end_rest n (suc j) cs) cs
  resume st p GotZero cs = keep L st p (zero_rest cs) cs
  resume st p InDigits cs = keep L st p (digits_rest cs) cs
  resume st p (InBased h) cs = keep L st p (based_rest decimals digit h cs) cs
  resume st p (InHex h) cs = keep L st p (based_rest hexadecimals hex_digit h cs) cs
  resume st p GotDot cs = pick (or (is 'dot' (get_or cs 0 0)) (starting L (get_or cs 0 0))) (key_from L 0 p false cs) (pick (digit (get_or cs 0 0)) (keep L st p (fraction_rest cs) cs) (key_from L 0 p false cs))
  resume st p InFraction cs = keep L st p (fraction_rest cs) cs
  resume st p GotE cs = keep L st p (e_rest cs) cs
  resume st p InExponent cs = keep L st p (exponent_rest cs) cs
