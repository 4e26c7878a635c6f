-- How much room one step of the machine takes, in bytes, in each mode: what it writes and holds back is no more than what was held back and the character.
use Prim.Native.Nat.{ℕ, zero, suc, ◌+◌, ◌≤◌}
use mathlib.Core.Path.{◌≡◌, refl}
use mathlib.Core.List.{List, [], ◌∷◌}
use mathlib.Core.Bool.{Bool, true, false}
use lib.Dec.{ltb}
use native.Mathlib.Omega.{arith}
use Rattle.basics.specs.Choice.{pick, and, or}
use Rattle.basics.proofs.Choices.{by_pick}
use Rattle.text.specs.Chars.{width, size}
use Rattle.text.proofs.Texts.{width_some}
use Rattle.classes.specs.Identifiers.{digit}
use Rattle.classes.specs.Whitespace.{is_whitespace}
use Rattle.token.specs.Names.{is, 'newline', '!', 'double', '#', 'single', '*', 'dot', '/', '0', '\', 'b', 'c', 'k', 'o', 'r', 'x'}
use Rattle.token.specs.Lists.{Lists, starting, going, smiling}
use Rattle.token.specs.Words.{in_invalid}
use Rattle.token.specs.Numbers.{hex_digit, decimals, hexadecimals}
use Rattle.token.specs.Lifetimes.{naming}
use Rattle.token.specs.Punctuation.{symbols, is_symbol, hash_or_quote}
use Rattle.token.proofs.Cover.{size_append}
use Rattle.machine.specs.declared.Mode.{Mode}
use Rattle.machine.specs.declared.Mode.TheVariants.{Start, OneSlash, TwoSlashes, ThreeSlashes, SlashStar, SlashStars, DocLine, PlainLine, Block, InWord, InBadWord, InName, Suffix, InString, StringEscape, Broken, GotR, GotRHash, GotK, GotNameHash, GotB, GotC, GotBR, GotHash, GotQuote, GotByteQuote, GotQuotes, WantsQuote, QuotedName, InLifetime, InQuotes, QuotesEscape, RawHashes, RawBody, RawEnd, GotZero, InDigits, InBased, InHex, GotDot, InFraction, GotE, InExponent}
use Rattle.machine.specs.declared.Last.{Last}
use Rattle.machine.specs.declared.Last.TheVariants.{PlainChar, ASlash, AStar}
use Rattle.machine.specs.Machine.{Next, taken, silent, preceded, gap_out, at_other, at_start, at_suffix, doc_out, in_block, at_block, at_doc, at_plain, at_ident, sign_mark, exponent_mark, at_fraction, at_exponent, at_quoted, at_life, raw_at, at_raw, step}
use Rattle.machine.specs.Pieces.{held}

-- one step n over c, where k characters were held back: what is written and held back after it is no more than they and c, in bytes
pub record Within (c k : ℕ) (n : Next) : Type 0 where
  pub it : size n.out + held n.mode ≤ k + width c

-- by cases, as the machine decides
either : {c k : ℕ} {x y : Next} (b : Bool) → Within c k x → Within c k y → Within c k (pick b x y)
either true f g = f
either false f g = g

-- c is written, and nothing is held back
one : {k : ℕ} (c : ℕ) (m : Mode) (st : ℕ) → held m ≡ 0 → Within c k (taken c m st)
one c m st e = record { it = omega (arith, e) }

-- nothing is written
none : {c k : ℕ} (m : Mode) (st : ℕ) → held m ≤ suc k → Within c k (silent m st)
none {c} m st h = record { it = omega (arith, h, width_some c) }

-- what is held back, in bytes
newline_one : size ('newline' ∷ []) ≡ 1
unfolding width
newline_one = refl

slash_one : size ('/' ∷ []) ≤ 1
unfolding width
slash_one = omega arith

slash_two : size ('/' ∷ '/' ∷ []) ≤ 2
unfolding width
slash_two = omega arith

slash_three : size ('/' ∷ '/' ∷ '/' ∷ []) ≤ 3
unfolding width
slash_three = omega arith

star_two : size ('/' ∷ '*' ∷ []) ≤ 2
unfolding width
star_two = omega arith

star_three : size ('/' ∷ '*' ∷ '*' ∷ []) ≤ 3
unfolding width
star_three = omega arith

-- what was held back is written before, or a newline for it
in_after : {c : ℕ} (k : ℕ) (u : List ℕ) (n : Next) → Within c 0 n → size u ≤ k → Within c k (preceded u n)
in_after k u n w h = record { it = omega (arith, w.it, size_append u n.out) }

in_gap : {c : ℕ} (k : ℕ) (r : Bool) (n : Next) → Within c 0 n → 1 ≤ k → Within c k (preceded (gap_out r) n)
in_gap k true n w h = in_after k [] n w (omega arith)
in_gap k false n w h = in_after k ('newline' ∷ []) n w (omega (arith, newline_one, h))

module _ (L : Lists) where
  -- each way of the machine
  in_other : (k p c : ℕ) → Within c k (at_other L p c)
  unfolding at_other
  in_other k p c =
      either (is 'r' c) (one c GotR p refl) (either (is 'k' c) (one c GotK p refl) (either (is 'b' c) (one c GotB p refl) (either (is 'c' c) (one c GotC p refl) (either (starting L c) (one c InWord p refl)
      (either (digit c) (one c (pick (is '0' c) GotZero InDigits) p (by_pick (λ (m : Mode). held m ≡ 0) (is '0' c) _ _ (λ e. refl) (λ e. refl))) (either (is '#' c) (one c GotHash p refl) (either (is_symbol symbols c) (one c (Start false) p refl) (either (is 'single' c) (one c GotQuote p refl) (either (is 'double' c) (one c InString p refl) (either (smiling L c) (one c InBadWord p refl) (one c (Start false) p refl)))))))))))

  in_start : (k p : ℕ) (r : Bool) (c : ℕ) → Within c k (at_start L p r c)
  unfolding at_start
  in_start k p r c = either (is '/' c) (none (OneSlash r) p (omega arith)) (either (is_whitespace c) (nl r) (in_other k p c))
    where
      nl : (s : Bool) → Within c k (record { out = gap_out s; mode = Start true; from = p })
      nl true = record { it = omega arith }
      nl false = record { it = omega (arith, newline_one, width_some c) }

  in_block_lem : (k : ℕ) (doc : Bool) (d : ℕ) (l : Last) (st c : ℕ) → Within c k (at_block doc d l st c)
  in_block_lem k doc d l st c = go doc
    where
      mode : (x : Bool) (d : ℕ) (l : Last) → held (in_block x d l c) ≡ 0
      mode x d PlainChar = refl
      mode x d ASlash = by_pick (λ (m : Mode). held m ≡ 0) (is '*' c) _ _ (λ e. refl) (λ e. refl)
      mode x zero AStar = by_pick (λ (m : Mode). held m ≡ 0) (is '/' c) _ _ (λ e. refl) (λ e. refl)
      mode x (suc d) AStar = by_pick (λ (m : Mode). held m ≡ 0) (is '/' c) _ _ (λ e. refl) (λ e. refl)

      go : (x : Bool) → Within c k (record { out = doc_out x c; mode = in_block x d l c; from = st })
      go true = record { it = omega (arith, mode true d l) }
      go false = record { it = omega (arith, mode false d l) }

  in_ident : (k st p c : ℕ) → Within c k (at_ident L st p c)
  in_ident k st p c = either (going L c) (one c InWord st refl) (either (smiling L c) (one c InBadWord st refl) (in_start k p false c))

  in_suffix : (k st p c : ℕ) → Within c k (at_suffix L st p c)
  in_suffix k st p c = either (starting L c) (one c InName st refl) (in_start k p false c)

  in_fraction : (k st p c : ℕ) → Within c k (at_fraction L st p c)
  in_fraction k st p c = either (is 'dot' c) (one c GotDot st refl) (either (exponent_mark c) (one c GotE st refl) (in_suffix k st p c))

  in_exponent : (k st p c : ℕ) → Within c k (at_exponent L st p c)
  in_exponent k st p c = either (decimals c) (one c InExponent st refl) (in_suffix k st p c)

  in_quoted : (k st c : ℕ) → Within c k (at_quoted st c)
  in_quoted k st c = either (is 'single' c) (one c GotQuotes st refl) (either (or (is '/' c) (is 'newline' c)) (one c WantsQuote st refl) (either (is '\' c) (one c QuotesEscape st refl) (one c InQuotes st refl)))

  in_life : (k st p c : ℕ) → Within c k (at_life L st p c)
  in_life k st p c = either (going L c) (one c InLifetime st refl) (either (is 'single' c) (one c (Start false) st refl) (in_start k p false c))

  raw_held : (n j : ℕ) → held (raw_at n j) ≡ 0
  raw_held n zero = by_pick (λ (m : Mode). held m ≡ 0) (ltb n 256) _ _ (λ e. refl) (λ e. refl)
  raw_held n (suc j) = refl

  in_raw : (k st n c : ℕ) → Within c k (at_raw st n c)
  in_raw k st n c = either (is 'double' c) (one c (raw_at n n) st (raw_held n n)) (one c (RawBody n) st refl)

  in_hash : (k st p c : ℕ) → Within c k (step L st p GotHash c)
  in_hash k st p c = either (hash_or_quote c) (one c (Start false) st refl) (in_start k p false c)

  in_hashes : (k st p n c : ℕ) → Within c k (step L st p (RawHashes n) c)
  in_hashes k st p n c = either (is '#' c) (one c (RawHashes (suc n)) st refl) (either (is 'double' c) (one c (RawBody n) st refl) (none Broken st (omega arith)))

  -- ONE STEP, in each mode
  pub bound : (st p : ℕ) (m : Mode) (c : ℕ) → Within c (held m) (step L st p m c)
  bound st p (Start r) c = in_start 0 p r c
  bound st p (OneSlash r) c = either (is '/' c) (none (TwoSlashes r) st (omega arith)) (either (is '*' c) (none (SlashStar r) st (omega arith)) (in_after 1 ('/' ∷ []) (at_start L p false c) (in_start 0 p false c) slash_one))
  bound st p (TwoSlashes r) c = either (is '!' c) (in_after 2 ('/' ∷ '/' ∷ []) (taken c DocLine st) (one c DocLine st refl) slash_two) (either (is '/' c) (none (ThreeSlashes r) st (omega arith)) (in_gap 2 r (at_plain L st p c) (either (is 'newline' c) (in_start 0 p true c) (none PlainLine st (omega arith))) (omega arith)))
  bound st p (ThreeSlashes r) c = either (is '/' c) (in_gap 3 r (silent PlainLine st) (none PlainLine st (omega arith)) (omega arith)) (in_after 3 ('/' ∷ '/' ∷ '/' ∷ []) (at_doc L st p c) (either (is 'newline' c) (in_start 0 p false c) (one c DocLine st refl)) slash_three)
  bound st p (SlashStar r) c = either (is '!' c) (in_after 2 ('/' ∷ '*' ∷ []) (at_block true 0 PlainChar st c) (in_block_lem 0 true 0 PlainChar st c) star_two) (either (is '*' c) (none (SlashStars r) st (omega arith)) (in_gap 2 r (at_block false 0 PlainChar st c) (in_block_lem 0 false 0 PlainChar st c) (omega arith)))
  bound st p (SlashStars r) c = either (or (is '*' c) (is '/' c)) (in_gap 3 r (at_block false 0 AStar st c) (in_block_lem 0 false 0 AStar st c) (omega arith)) (in_after 3 ('/' ∷ '*' ∷ '*' ∷ []) (at_block true 0 AStar st c) (in_block_lem 0 true 0 AStar st c) star_three)
  bound st p DocLine c = either (is 'newline' c) (in_start 0 p false c) (one c DocLine st refl)
  bound st p PlainLine c = either (is 'newline' c) (in_start 0 p true c) (none PlainLine st (omega arith))
  bound st p (Block doc d l) c = in_block_lem 0 doc d l st c
  bound st p InWord c = in_ident 0 st p c
  bound st p InBadWord c = either (in_invalid L c) (one c InBadWord st refl) (in_start 0 p false c)
  bound st p InName c = either (going L c) (one c InName st refl) (in_start 0 p false c)
  bound st p Suffix c = in_suffix 0 st p c
  bound st p InString c = either (is 'double' c) (one c Suffix st refl) (either (is '\' c) (one c StringEscape st refl) (one c InString st refl))
  bound st p StringEscape c = one c InString st refl
  bound st p Broken c = none Broken st (omega arith)
  bound st p GotR c = either (is '#' c) (one c GotRHash st refl) (either (is 'double' c) (one c (RawBody 0) st refl) (in_ident 0 st p c))
  bound st p GotRHash c = either (starting L c) (one c InName st refl) (in_hashes 0 st p 1 c)
  bound st p GotK c = either (is '#' c) (one c GotNameHash st refl) (in_ident 0 st p c)
  bound st p GotNameHash c = either (starting L c) (one c InName st refl) (in_hash 0 st p c)
  bound st p GotB c = either (is 'single' c) (one c GotByteQuote st refl) (either (is 'double' c) (one c InString st refl) (either (is 'r' c) (one c GotBR st refl) (in_ident 0 st p c)))
  bound st p GotC c = either (is 'double' c) (one c InString st refl) (either (is 'r' c) (one c GotBR st refl) (in_ident 0 st p c))
  bound st p GotBR c = either (is 'double' c) (one c (RawBody 0) st refl) (either (is '#' c) (one c (RawHashes 1) st refl) (in_ident 0 st p c))
  bound st p GotHash c = in_hash 0 st p c
  bound st p GotQuote c = either (naming L c) (one c (QuotedName (is 'r' c)) st refl) (in_quoted 0 st c)
  bound st p GotByteQuote c = in_quoted 0 st c
  bound st p GotQuotes c = either (is 'single' c) (one c Suffix st refl) (in_suffix 0 st p c)
  bound st p WantsQuote c = either (is 'single' c) (one c Suffix st refl) (none Broken st (omega arith))
  bound st p (QuotedName r) c = either (is 'single' c) (one c Suffix st refl) (either (and r (is '#' c)) (one c GotNameHash st refl) (in_life 0 st p c))
  bound st p InLifetime c = in_life 0 st p c
  bound st p InQuotes c = either (is 'single' c) (one c Suffix st refl) (either (is '/' c) (none Broken st (omega arith)) (either (is 'newline' c) (one c WantsQuote st refl) (either (is '\' c) (one c QuotesEscape st refl) (one c InQuotes st refl))))
  bound st p QuotesEscape c = one c InQuotes st refl
  bound st p (RawHashes n) c = in_hashes 0 st p n c
  bound st p (RawBody n) c = in_raw 0 st n c
  bound st p (RawEnd n j) c = either (is '#' c) (one c (raw_at n j) st (raw_held n j)) (in_raw 0 st n c)
  bound st p GotZero c = either (or (is 'b' c) (is 'o' c)) (one c (InBased false) st refl) (either (is 'x' c) (one c (InHex false) st refl) (either (decimals c) (one c InDigits st refl) (in_fraction 0 st p c)))
  bound st p InDigits c = either (decimals c) (one c InDigits st refl) (in_fraction 0 st p c)
  bound st p (InBased h) c = either (decimals c) (one c (InBased (or h (digit c))) st refl) (either h (in_fraction 0 st p c) (in_suffix 0 st p c))
  bound st p (InHex h) c = either (hexadecimals c) (one c (InHex (or h (hex_digit c))) st refl) (either h (in_fraction 0 st p c) (in_suffix 0 st p c))
  bound st p GotDot c = either (or (is 'dot' c) (starting L c)) (in_start 0 p false c) (either (digit c) (one c InFraction st refl) (in_start 0 p false c))
  bound st p InFraction c = either (decimals c) (one c InFraction st refl) (either (exponent_mark c) (one c GotE st refl) (in_suffix 0 st p c))
  bound st p GotE c = either (sign_mark c) (one c InExponent st refl) (in_exponent 0 st p c)
  bound st p InExponent c = in_exponent 0 st p c
