-- One step of the machine makes no CR LF, in each mode: after a character that is no CR (`after_other`), and after a CR (`after_return`).
use Prim.Native.Nat.{ℕ, zero, suc}
use mathlib.Core.Path.{◌≡◌, refl, sym, ap, ◌∙◌}
use mathlib.Core.List.{List, [], ◌∷◌}
use mathlib.Core.Bool.{Bool, true, false}
use borrow.Author.Tests.{eqb-true}
use Rattle.basics.specs.Choice.{pick, and, or}
use Rattle.classes.specs.Identifiers.{digit, letter, id_start, id_continue}
use Rattle.classes.specs.Whitespace.{is_whitespace}
use Rattle.classes.specs.Emoji.{emoji_char}
use Rattle.token.specs.Names.{is, 'newline', 'carriage_return', '!', 'double', '#', 'single', '*', 'dot', '/', '0', '\', 'b', 'c', 'k', 'o', 'r', 'x'}
use Rattle.token.specs.Lists.{Lists, starting, going, smiling}
use Rattle.token.specs.Words.{in_invalid}
use Rattle.token.specs.Numbers.{hex_digit, decimals, hexadecimals}
use Rattle.token.specs.Lifetimes.{naming}
use Rattle.token.specs.Punctuation.{symbols, is_symbol, hash_or_quote}
use Rattle.canon.proofs.Sounds.{false_true}
use Rattle.machine.specs.declared.Mode.{Mode}
use Rattle.machine.specs.declared.Mode.TheVariants.{Start, OneSlash, TwoSlashes, ThreeSlashes, SlashStar, SlashStars, DocLine, PlainLine, Block, InWord, InBadWord, InName, Suffix, InString, StringEscape, Broken, GotR, GotRHash, GotK, GotNameHash, GotB, GotC, GotBR, GotHash, GotQuote, GotByteQuote, GotQuotes, WantsQuote, QuotedName, InLifetime, InQuotes, QuotesEscape, RawHashes, RawBody, RawEnd, GotZero, InDigits, InBased, InHex, GotDot, InFraction, GotE, InExponent}
use Rattle.machine.specs.declared.Last.{Last}
use Rattle.machine.specs.declared.Last.TheVariants.{PlainChar, ASlash, AStar}
use Rattle.machine.specs.Machine.{taken, silent, at_other, at_start, at_suffix, in_block, at_block, at_doc, at_plain, at_ident, sign_mark, exponent_mark, at_fraction, at_exponent, at_quoted, at_life, raw_at, at_raw, step}
use Rattle.machine.proofs.Tidy.{goes_on, Joins, took, quietly, gap_goes, lost, either, other, after_held, after_gap}

module _ (L : Lists) where
  -- CR begins no word and goes on in none; it is whitespace
  starting_not : starting L 'carriage_return' ≡ false
  unfolding id_start letter
  starting_not = refl

  going_not : going L 'carriage_return' ≡ false
  unfolding id_continue letter
  going_not = refl

  smiling_not : smiling L 'carriage_return' ≡ false
  unfolding emoji_char
  smiling_not = refl

  naming_not : naming L 'carriage_return' ≡ false
  unfolding id_start letter
  naming_not = refl

  invalid_not : in_invalid L 'carriage_return' ≡ false
  unfolding id_continue letter emoji_char
  invalid_not = refl

  white_so : is_whitespace 'carriage_return' ≡ true
  unfolding is_whitespace
  white_so = refl

  -- where a token begins
  in_other : (p c : ℕ) (cs : List ℕ) → is_whitespace c ≡ false → Joins L false p c cs (at_other L p c)
  unfolding at_other
  in_other p c cs w =
      either (is 'r' c) (λ e. took c GotR p false_true (other c (is 'r') refl e)) (λ e. either (is 'k' c) (λ e. took c GotK p false_true (other c (is 'k') refl e)) (λ e. either (is 'b' c) (λ e. took c GotB p false_true (other c (is 'b') refl e))
      (λ e. either (is 'c' c) (λ e. took c GotC p false_true (other c (is 'c') refl e)) (λ e. either (starting L c) (λ e. took c InWord p false_true (other c (starting L) starting_not e))
      (λ e. either (digit c) (λ e. took c (pick (is '0' c) GotZero InDigits) p false_true (other c digit refl e)) (λ e. either (is '#' c) (λ e. took c GotHash p false_true (other c (is '#') refl e)) (λ e. either (is_symbol symbols c) (λ e. took c (Start false) p false_true (other c (is_symbol symbols) refl e)) (λ e. either (is 'single' c) (λ e. took c GotQuote p false_true (other c (is 'single') refl e))
      (λ e. either (is 'double' c) (λ e. took c InString p false_true (λ h. refl)) (λ e. either (smiling L c) (λ e. took c InBadWord p false_true (other c (smiling L) smiling_not e)) (λ e. took c (Start false) p false_true (λ h. false_true (sym w ∙ ap is_whitespace (eqb-true c 'carriage_return' h) ∙ white_so)))))))))))))

  in_start : (p : ℕ) (r : Bool) (c : ℕ) (cs : List ℕ) → Joins L false p c cs (at_start L p r c)
  unfolding at_start
  in_start p r c cs = either (is '/' c) (λ e. quietly (OneSlash r) p) (λ e. either (is_whitespace c) (λ f. gap_goes r) (λ f. in_other p c cs f))

  module _ (st p c : ℕ) (cs : List ℕ) where
    -- in a block comment: the mode goes on, where the character is CR
    block_on : (d : ℕ) (l : Last) → is 'carriage_return' c ≡ true → goes_on (in_block true d l c) ≡ true
    block_on d PlainChar h = refl
    block_on d ASlash h = rw (eqb-true c 'carriage_return' h)
    block_on zero AStar h = rw (eqb-true c 'carriage_return' h)
    block_on (suc d) AStar h = rw (eqb-true c 'carriage_return' h)

    in_block_lem : (w : Bool) → (w ≡ true → is 'newline' c ≡ false) → (d : ℕ) (l : Last) → Joins L w p c cs (at_block true d l st c)
    in_block_lem w h d l = took c (in_block true d l c) st h (block_on d l)

    in_plain_block : (d : ℕ) (l : Last) → Joins L false p c cs (at_block false d l st c)
    in_plain_block d l = quietly (in_block false d l c) st

    in_ident : Joins L false p c cs (at_ident L st p c)
    in_ident = either (going L c) (λ e. took c InWord st false_true (other c (going L) going_not e)) (λ e. either (smiling L c) (λ f. took c InBadWord st false_true (other c (smiling L) smiling_not f)) (λ f. in_start p false c cs))

    in_suffix : Joins L false p c cs (at_suffix L st p c)
    in_suffix = either (starting L c) (λ e. took c InName st false_true (other c (starting L) starting_not e)) (λ e. in_start p false c cs)

    in_exponent : Joins L false p c cs (at_exponent L st p c)
    in_exponent = either (decimals c) (λ e. took c InExponent st false_true (other c decimals refl e)) (λ e. in_suffix)

    in_fraction : Joins L false p c cs (at_fraction L st p c)
    in_fraction = either (is 'dot' c) (λ e. took c GotDot st false_true (other c (is 'dot') refl e)) (λ e. either (exponent_mark c) (λ f. took c GotE st false_true (other c exponent_mark refl f)) (λ f. in_suffix))

    in_quoted : Joins L false p c cs (at_quoted st c)
    in_quoted = either (is 'single' c) (λ e. took c GotQuotes st false_true (other c (is 'single') refl e)) (λ e. either (or (is '/' c) (is 'newline' c)) (λ f. took c WantsQuote st false_true (other c (λ c. or (is '/' c) (is 'newline' c)) refl f)) (λ f. either (is '\' c) (λ g. took c QuotesEscape st false_true (other c (is '\') refl g)) (λ g. took c InQuotes st false_true (λ h. refl))))

    in_life : Joins L false p c cs (at_life L st p c)
    in_life = either (going L c) (λ e. took c InLifetime st false_true (other c (going L) going_not e)) (λ e. either (is 'single' c) (λ f. took c (Start false) st false_true (other c (is 'single') refl f)) (λ f. in_start p false c cs))

    in_raw : (w : Bool) → (w ≡ true → is 'newline' c ≡ false) → (n : ℕ) → Joins L w p c cs (at_raw st n c)
    in_raw w h n = either (is 'double' c) (λ e. took c (raw_at n n) st h (other c (is 'double') refl e)) (λ e. took c (RawBody n) st h (λ g. refl))

    in_doc : Joins L false p c cs (at_doc L st p c)
    in_doc = either (is 'newline' c) (λ e. in_start p false c cs) (λ e. took c DocLine st false_true (λ h. refl))

    in_plain : Joins L false p c cs (at_plain L st p c)
    in_plain = either (is 'newline' c) (λ e. in_start p true c cs) (λ e. quietly PlainLine st)

    in_hash : Joins L false p c cs (step L st p GotHash c)
    in_hash = either (hash_or_quote c) (λ e. took c (Start false) st false_true (other c hash_or_quote refl e)) (λ e. in_start p false c cs)

    in_hashes : (n : ℕ) → Joins L false p c cs (step L st p (RawHashes n) c)
    in_hashes n = either (is '#' c) (λ e. took c (RawHashes (suc n)) st false_true (other c (is '#') refl e)) (λ e. either (is 'double' c) (λ f. took c (RawBody n) st false_true (λ h. refl)) (λ f. lost st))

    in_string : (w : Bool) → (w ≡ true → is 'newline' c ≡ false) → Joins L w p c cs (step L st p InString c)
    in_string w h = either (is 'double' c) (λ e. took c Suffix st h (other c (is 'double') refl e)) (λ e. either (is '\' c) (λ f. took c StringEscape st h (other c (is '\') refl f)) (λ f. took c InString st h (λ g. refl)))

    in_quotes : (w : Bool) → (w ≡ true → is 'newline' c ≡ false) → Joins L w p c cs (step L st p InQuotes c)
    in_quotes w h = either (is 'single' c) (λ e. took c Suffix st h (other c (is 'single') refl e)) (λ e. either (is '/' c) (λ f. lost st) (λ f. either (is 'newline' c) (λ g. took c WantsQuote st h (other c (is 'newline') refl g)) (λ g. either (is '\' c) (λ i. took c QuotesEscape st h (other c (is '\') refl i)) (λ i. took c InQuotes st h (λ j. refl)))))

    in_c : Joins L false p c cs (step L st p GotC c)
    in_c = either (is 'double' c) (λ e. took c InString st false_true (λ h. refl)) (λ e. either (is 'r' c) (λ f. took c GotBR st false_true (other c (is 'r') refl f)) (λ f. in_ident))

    in_digits : Joins L false p c cs (step L st p InDigits c)
    in_digits = either (decimals c) (λ e. took c InDigits st false_true (other c decimals refl e)) (λ e. in_fraction)

    in_based_end : (h : Bool) → Joins L false p c cs (pick h (at_fraction L st p c) (at_suffix L st p c))
    in_based_end true = in_fraction
    in_based_end false = in_suffix

    -- NO CR was the last character written
    after_other : (m : Mode) → Joins L false p c cs (step L st p m c)
    after_other (Start r) = in_start p r c cs
    after_other (OneSlash r) = either (is '/' c) (λ e. quietly (TwoSlashes r) st) (λ e. either (is '*' c) (λ f. quietly (SlashStar r) st) (λ f. after_held ('/' ∷ []) (at_start L p false c) (λ o. refl) (in_start p false c cs)))
    after_other (TwoSlashes r) = either (is '!' c) (λ e. after_held ('/' ∷ '/' ∷ []) (taken c DocLine st) (λ o. refl) (took c DocLine st false_true (λ h. refl))) (λ e. either (is '/' c) (λ f. quietly (ThreeSlashes r) st) (λ f. after_gap r (at_plain L st p c) in_plain))
    after_other (ThreeSlashes r) = either (is '/' c) (λ e. after_gap r (silent PlainLine st) (quietly PlainLine st)) (λ e. after_held ('/' ∷ '/' ∷ '/' ∷ []) (at_doc L st p c) (λ o. refl) in_doc)
    after_other (SlashStar r) = either (is '!' c) (λ e. after_held ('/' ∷ '*' ∷ []) (at_block true 0 PlainChar st c) (λ o. refl) (in_block_lem false false_true 0 PlainChar)) (λ e. either (is '*' c) (λ f. quietly (SlashStars r) st) (λ f. after_gap r (at_block false 0 PlainChar st c) (in_plain_block 0 PlainChar)))
    after_other (SlashStars r) = either (or (is '*' c) (is '/' c)) (λ e. after_gap r (at_block false 0 AStar st c) (in_plain_block 0 AStar)) (λ e. after_held ('/' ∷ '*' ∷ '*' ∷ []) (at_block true 0 AStar st c) (λ o. refl) (in_block_lem false false_true 0 AStar))
    after_other DocLine = in_doc
    after_other PlainLine = in_plain
    after_other (Block true d l) = in_block_lem false false_true d l
    after_other (Block false d l) = in_plain_block d l
    after_other InWord = in_ident
    after_other InBadWord = either (in_invalid L c) (λ e. took c InBadWord st false_true (other c (in_invalid L) invalid_not e)) (λ e. in_start p false c cs)
    after_other InName = either (going L c) (λ e. took c InName st false_true (other c (going L) going_not e)) (λ e. in_start p false c cs)
    after_other Suffix = in_suffix
    after_other InString = in_string false false_true
    after_other StringEscape = took c InString st false_true (λ h. refl)
    after_other Broken = lost st
    after_other GotR = either (is '#' c) (λ e. took c GotRHash st false_true (other c (is '#') refl e)) (λ e. either (is 'double' c) (λ f. took c (RawBody 0) st false_true (λ h. refl)) (λ f. in_ident))
    after_other GotRHash = either (starting L c) (λ e. took c InName st false_true (other c (starting L) starting_not e)) (λ e. in_hashes 1)
    after_other GotK = either (is '#' c) (λ e. took c GotNameHash st false_true (other c (is '#') refl e)) (λ e. in_ident)
    after_other GotNameHash = either (starting L c) (λ e. took c InName st false_true (other c (starting L) starting_not e)) (λ e. in_hash)
    after_other GotB = either (is 'single' c) (λ e. took c GotByteQuote st false_true (other c (is 'single') refl e)) (λ e. in_c)
    after_other GotC = in_c
    after_other GotBR = either (is 'double' c) (λ e. took c (RawBody 0) st false_true (λ h. refl)) (λ e. either (is '#' c) (λ f. took c (RawHashes 1) st false_true (other c (is '#') refl f)) (λ f. in_ident))
    after_other GotHash = in_hash
    after_other GotQuote = either (naming L c) (λ e. took c (QuotedName (is 'r' c)) st false_true (other c (naming L) naming_not e)) (λ e. in_quoted)
    after_other GotByteQuote = in_quoted
    after_other GotQuotes = either (is 'single' c) (λ e. took c Suffix st false_true (other c (is 'single') refl e)) (λ e. in_suffix)
    after_other WantsQuote = either (is 'single' c) (λ e. took c Suffix st false_true (other c (is 'single') refl e)) (λ e. lost st)
    after_other (QuotedName r) = either (is 'single' c) (λ e. took c Suffix st false_true (other c (is 'single') refl e)) (λ e. hid r)
      where
        hid : (r : Bool) → Joins L false p c cs (pick (and r (is '#' c)) (taken c GotNameHash st) (at_life L st p c))
        hid true = either (is '#' c) (λ e. took c GotNameHash st false_true (other c (is '#') refl e)) (λ e. in_life)
        hid false = in_life
    after_other InLifetime = in_life
    after_other InQuotes = in_quotes false false_true
    after_other QuotesEscape = took c InQuotes st false_true (λ h. refl)
    after_other (RawHashes n) = in_hashes n
    after_other (RawBody n) = in_raw false false_true n
    after_other (RawEnd n j) = either (is '#' c) (λ e. took c (raw_at n j) st false_true (other c (is '#') refl e)) (λ e. in_raw false false_true n)
    after_other GotZero = either (or (is 'b' c) (is 'o' c)) (λ e. took c (InBased false) st false_true (other c (λ c. or (is 'b' c) (is 'o' c)) refl e)) (λ e. either (is 'x' c) (λ f. took c (InHex false) st false_true (other c (is 'x') refl f)) (λ f. in_digits))
    after_other InDigits = in_digits
    after_other (InBased h) = either (decimals c) (λ e. took c (InBased (or h (digit c))) st false_true (other c decimals refl e)) (λ e. in_based_end h)
    after_other (InHex h) = either (hexadecimals c) (λ e. took c (InHex (or h (hex_digit c))) st false_true (other c hexadecimals refl e)) (λ e. in_based_end h)
    after_other GotDot = either (or (is 'dot' c) (starting L c)) (λ e. in_start p false c cs) (λ e. either (digit c) (λ f. took c InFraction st false_true (other c digit refl f)) (λ f. in_start p false c cs))
    after_other InFraction = either (decimals c) (λ e. took c InFraction st false_true (other c decimals refl e)) (λ e. either (exponent_mark c) (λ f. took c GotE st false_true (other c exponent_mark refl f)) (λ f. in_suffix))
    after_other GotE = either (sign_mark c) (λ e. took c InExponent st false_true (other c sign_mark refl e)) (λ e. in_exponent)
    after_other InExponent = in_exponent

    in_doc_on : is 'newline' c ≡ false → Joins L true p c cs (at_doc L st p c)
    in_doc_on h = either (is 'newline' c) (λ e. false_true (sym h ∙ e)) (λ e. took c DocLine st (λ x. h) (λ h. refl))

    -- inside a token that goes on, after a CR: false-true newline comes
    after_return : (m : Mode) → goes_on m ≡ true → is 'newline' c ≡ false → Joins L true p c cs (step L st p m c)
    after_return (Start r) g h = false_true g
    after_return (OneSlash r) g h = false_true g
    after_return (TwoSlashes r) g h = false_true g
    after_return (ThreeSlashes r) g h = false_true g
    after_return (SlashStar r) g h = false_true g
    after_return (SlashStars r) g h = false_true g
    after_return DocLine g h = in_doc_on h
    after_return PlainLine g h = false_true g
    after_return (Block true d l) g h = in_block_lem true (λ x. h) d l
    after_return (Block false d l) g h = false_true g
    after_return InWord g h = false_true g
    after_return InBadWord g h = false_true g
    after_return InName g h = false_true g
    after_return Suffix g h = false_true g
    after_return InString g h = in_string true (λ x. h)
    after_return StringEscape g h = false_true g
    after_return Broken g h = lost st
    after_return GotR g h = false_true g
    after_return GotRHash g h = false_true g
    after_return GotK g h = false_true g
    after_return GotNameHash g h = false_true g
    after_return GotB g h = false_true g
    after_return GotC g h = false_true g
    after_return GotBR g h = false_true g
    after_return GotHash g h = false_true g
    after_return GotQuote g h = false_true g
    after_return GotByteQuote g h = false_true g
    after_return GotQuotes g h = false_true g
    after_return WantsQuote g h = false_true g
    after_return (QuotedName r) g h = false_true g
    after_return InLifetime g h = false_true g
    after_return InQuotes g h = in_quotes true (λ x. h)
    after_return QuotesEscape g h = false_true g
    after_return (RawHashes n) g h = false_true g
    after_return (RawBody n) g h = in_raw true (λ x. h) n
    after_return (RawEnd n j) g h = false_true g
    after_return GotZero g h = false_true g
    after_return InDigits g h = false_true g
    after_return (InBased b) g h = false_true g
    after_return (InHex b) g h = false_true g
    after_return GotDot g h = false_true g
    after_return InFraction g h = false_true g
    after_return GotE g h = false_true g
    after_return InExponent g h = false_true g

    -- ONE STEP; w: a CR was the last character written
    pub joins_on : (m : Mode) (w : Bool) → (w ≡ true → (goes_on m ≡ true) × (is 'newline' c ≡ false)) → Joins L w p c cs (step L st p m c)
    joins_on m true h = after_return m (h refl).0 (h refl).1
    joins_on m false h = after_other m
