-- THE MACHINE GIVES THE KEY, on characters: in every mode, what it writes is what is still to come by the book (`resume`).
-- At the end of the text (`ends`), and by one step over each character (`turn`); the steps are shown mode by mode in the files before.
use Prim.Native.Nat.{ℕ, ◌+◌}
use mathlib.Core.Path.{◌≡◌, refl, ap, ◌∙◌}
use mathlib.Core.List.{List, [], ◌∷◌}
use mathlib.Core.Bool.{true, false}
use Rattle.text.specs.Chars.{width}
use Rattle.classes.specs.Identifiers.{letter, id_start, id_continue}
use Rattle.classes.specs.Emoji.{emoji_char}
use Rattle.eaters.specs.Eat.{give, eat, eat_any, while, ◌>>=◌, texted, choose}
use Rattle.eaters.specs.Look.{if_at, if_two}
use Rattle.eaters.specs.Scan.{scan, first_with}
use Rattle.token.specs.declared.LiteralKind.TheVariants.{CStr, RawCStr}
use Rattle.token.specs.Lists.{Lists}
use Rattle.machine.specs.declared.Mode.{Mode}
use Rattle.machine.specs.declared.Mode.TheVariants.{Start, OneSlash, TwoSlashes, ThreeSlashes, SlashStar, SlashStars, DocLine, PlainLine, Block, InWord, InBadWord, InName, Suffix, InString, StringEscape, Broken, GotR, GotRHash, GotK, GotNameHash, GotB, GotC, GotBR, GotHash, GotQuote, GotByteQuote, GotQuotes, WantsQuote, QuotedName, InLifetime, InQuotes, QuotesEscape, RawHashes, RawBody, RawEnd, GotZero, InDigits, InBased, InHex, GotDot, InFraction, GotE, InExponent}
use Rattle.machine.specs.declared.Last.TheVariants.{PlainChar, ASlash, AStar}
use Rattle.machine.specs.Machine.{put, step, finish, result}
use Rattle.machine.proofs.Eating.{not_not}
use Rattle.machine.proofs.ToCome.{resume}
use Rattle.machine.proofs.Goes.{After, Steps, goes}
use Rattle.machine.proofs.Begins.{begins}
use Rattle.machine.proofs.Words.{at_ident_lem, at_bad_word, at_name, at_suffix_lem}
use Rattle.machine.proofs.Strings.{at_string, at_string_escape}
use Rattle.machine.proofs.RawStrings.{at_hashes, at_raw_lem, at_raw_end}
use Rattle.machine.proofs.Prefixed.{at_r, at_r_hash, at_k, at_hash, at_name_hash, at_c, at_b, at_br}
use Rattle.machine.proofs.Quotes.{at_quotes, at_wants_quote, at_in_quotes, at_quotes_escape, at_quoted_lem}
use Rattle.machine.proofs.Lifetimes.{at_life_lem, at_quoted_name, at_quote}
use Rattle.machine.proofs.Numbers.{at_exponent_lem, at_e, at_in_fraction, at_digits, at_based, at_hex, at_zero, at_got_dot}
use Rattle.machine.proofs.LineComments.{at_doc_lem, at_plain_lem, at_one_slash, at_two_slashes, at_three_slashes}
use Rattle.machine.proofs.BlockComments.{at_block_lem, at_slash_star, at_slash_stars}

module _ (L : Lists) where
  -- THE END, in each mode
  ends : (st p : ℕ) (m : Mode) → finish st m ≡ resume L st p m []
  unfolding give eat while ◌>>=◌ texted choose if_at if_two scan first_with eat_any id_start id_continue emoji_char letter
  ends st p (Start r) = refl
  ends st p (OneSlash r) = refl
  ends st p (TwoSlashes true) = refl
  ends st p (TwoSlashes false) = refl
  ends st p (ThreeSlashes r) = refl
  ends st p (SlashStar r) = refl
  ends st p (SlashStars r) = refl
  ends st p DocLine = refl
  ends st p PlainLine = refl
  ends st p (Block true d PlainChar) = refl
  ends st p (Block true d ASlash) = refl
  ends st p (Block true d AStar) = refl
  ends st p (Block false d PlainChar) = refl
  ends st p (Block false d ASlash) = refl
  ends st p (Block false d AStar) = refl
  ends st p InWord = refl
  ends st p InBadWord = refl
  ends st p InName = refl
  ends st p Suffix = refl
  ends st p InString = refl
  ends st p StringEscape = refl
  ends st p Broken = refl
  ends st p GotR = refl
  ends st p GotRHash = refl
  ends st p GotK = refl
  ends st p GotNameHash = refl
  ends st p GotB = refl
  ends st p GotC = refl
  ends st p GotBR = refl
  ends st p GotHash = refl
  ends st p GotQuote = refl
  ends st p GotByteQuote = refl
  ends st p GotQuotes = refl
  ends st p WantsQuote = refl
  ends st p (QuotedName true) = refl
  ends st p (QuotedName false) = refl
  ends st p InLifetime = refl
  ends st p InQuotes = refl
  ends st p QuotesEscape = refl
  ends st p (RawHashes n) = refl
  ends st p (RawBody n) = refl
  ends st p (RawEnd n j) = refl
  ends st p GotZero = refl
  ends st p InDigits = refl
  ends st p (InBased h) = refl
  ends st p (InHex h) = refl
  ends st p GotDot = refl
  ends st p InFraction = refl
  ends st p GotE = refl
  ends st p InExponent = refl

  -- ONE STEP, in each mode
  turn : (st p : ℕ) (m : Mode) (c : ℕ) (cs : List ℕ) → Steps L st p m c cs
  turn st p (Start r) c cs = record { is_so = begins L p r c cs }
  turn st p (OneSlash r) c cs = at_one_slash L st p c cs r
  turn st p (TwoSlashes r) c cs = at_two_slashes L st p c cs r
  turn st p (ThreeSlashes r) c cs = at_three_slashes L st p c cs r
  turn st p (SlashStar r) c cs = at_slash_star L st p c cs r
  turn st p (SlashStars r) c cs = at_slash_stars L st p c cs r
  turn st p DocLine c cs = goes (at_doc_lem L st p c cs)
  turn st p PlainLine c cs = at_plain_lem L st p c cs
  turn st p (Block doc d l) c cs = at_block_lem L doc st p c cs d l
  turn st p InWord c cs = goes (at_ident_lem L st p c cs)
  turn st p InBadWord c cs = goes (at_bad_word L st p c cs)
  turn st p InName c cs = goes (at_name L st p c cs)
  turn st p Suffix c cs = goes (at_suffix_lem L st p c cs)
  turn st p InString c cs = goes (at_string L st p c cs)
  turn st p StringEscape c cs = goes (at_string_escape L st p c cs)
  turn st p Broken c cs = unfold After in record { is_so = refl }
  turn st p GotR c cs = goes (at_r L st p c cs)
  turn st p GotRHash c cs = goes (at_r_hash L st p c cs)
  turn st p GotK c cs = goes (at_k L st p c cs)
  turn st p GotNameHash c cs = goes (at_name_hash L st p c cs)
  turn st p GotB c cs = goes (at_b L st p c cs)
  turn st p GotBR c cs = goes (at_br L st p c cs)
  turn st p GotHash c cs = goes (at_hash L st p c cs)
  turn st p GotQuote c cs = goes (at_quote L st p c cs)
  turn st p GotQuotes c cs = goes (at_quotes L st p c cs)
  turn st p WantsQuote c cs = goes (at_wants_quote L st p c cs)
  turn st p InLifetime c cs = goes (at_life_lem L st p c cs)
  turn st p InQuotes c cs = goes (at_in_quotes L st p c cs)
  turn st p QuotesEscape c cs = goes (at_quotes_escape L st p c cs)
  turn st p GotZero c cs = goes (at_zero L st p c cs)
  turn st p GotDot c cs = at_got_dot L st p c cs
  turn st p InFraction c cs = goes (at_in_fraction L st p c cs)
  turn st p GotE c cs = goes (at_e L st p c cs)
  turn st p GotC c cs = goes (at_c L st p c cs CStr RawCStr not_not (λ h. refl))
  turn st p GotByteQuote c cs = goes (at_quoted_lem L st p c cs)
  turn st p (QuotedName r) c cs = goes (at_quoted_name L st p c cs r)
  turn st p (RawHashes n) c cs = goes (at_hashes L st p c cs n)
  turn st p (RawBody n) c cs = goes (at_raw_lem L st p c cs n)
  turn st p (RawEnd n j) c cs = goes (at_raw_end L st p c cs n j)
  turn st p InDigits c cs = goes (at_digits L st p c cs)
  turn st p (InBased h) c cs = goes (at_based L st p c cs h)
  turn st p (InHex h) c cs = goes (at_hex L st p c cs h)
  turn st p InExponent c cs = goes (at_exponent_lem L st p c cs)

  -- THE MACHINE, from any mode on
  pub runs : (st p : ℕ) (m : Mode) (cs : List ℕ) → result L st p m cs ≡ resume L st p m cs
  unfolding After
  runs st p m [] = ends st p m
  runs st p m (c ∷ cs) = ap (put (step L st p m c).out) (runs (step L st p m c).from (p + width c) (step L st p m c).mode cs) ∙ (turn st p m c cs).is_so
