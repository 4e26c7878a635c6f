-- NO NUMBER GROWS FAST: the depth of a comment and the hashes of a raw string are at most the characters read. So they fit where that count fits.
use Prim.Native.Nat.{ℕ, zero, suc, ◌≤◌, max}
use mathlib.Core.List.{List, [], ◌∷◌}
use mathlib.Core.Bool.{Bool, true, false, not}
use lib.Dec.{ltb}
use native.Mathlib.Omega.{arith}
use Rattle.basics.specs.Choice.{pick, and, or}
use Rattle.classes.specs.Identifiers.{digit}
use Rattle.classes.specs.Whitespace.{is_whitespace}
use Rattle.token.specs.Names.{is, 'newline', '!', 'double', '#', 'single', '*', 'dot', '/', '0', '\', 'b', 'c', 'k', 'o', 'r', 'x'}
use Rattle.token.specs.Lists.{Lists, starting, going, smiling}
use Rattle.token.specs.Words.{in_invalid}
use Rattle.token.specs.Numbers.{hex_digit, decimals, hexadecimals}
use Rattle.token.specs.Lifetimes.{naming}
use Rattle.token.specs.Punctuation.{symbols, is_symbol, hash_or_quote}
use Rattle.machine.specs.declared.Mode.{Mode}
use Rattle.machine.specs.declared.Mode.TheVariants.{Start, OneSlash, TwoSlashes, ThreeSlashes, SlashStar, SlashStars, DocLine, PlainLine, Block, InWord, InBadWord, InName, Suffix, InString, StringEscape, Broken, GotR, GotRHash, GotK, GotNameHash, GotB, GotC, GotBR, GotHash, GotQuote, GotByteQuote, GotQuotes, WantsQuote, QuotedName, InLifetime, InQuotes, QuotesEscape, RawHashes, RawBody, RawEnd, GotZero, InDigits, InBased, InHex, GotDot, InFraction, GotE, InExponent}
use Rattle.machine.specs.declared.Last.{Last}
use Rattle.machine.specs.declared.Last.TheVariants.{PlainChar, ASlash, AStar}
use Rattle.machine.specs.Machine.{Next, taken, silent, preceded, gap_out, at_other, at_start, at_suffix, last_of, in_block, at_block, at_doc, at_plain, at_ident, sign_mark, exponent_mark, at_fraction, at_exponent, at_quoted, at_life, raw_at, at_raw, step}
use Rattle.machine.specs.Pieces.{deepest}

module _ (L : Lists) where
  record Small (k : ℕ) (n : Next) : Type 0 where
    it : deepest n.mode ≤ suc k

  either : {k : ℕ} {x y : Next} (b : Bool) → Small k x → Small k y → Small k (pick b x y)
  either true f g = f
  either false f g = g

  one : {k : ℕ} (c : ℕ) (m : Mode) (st : ℕ) → deepest m ≤ suc k → Small k (taken c m st)
  one c m st h = record { it = h }

  none : {k : ℕ} (m : Mode) (st : ℕ) → deepest m ≤ suc k → Small k (silent m st)
  none m st h = record { it = h }

  in_other : (k p c : ℕ) → Small k (at_other L p c)
  unfolding at_other
  in_other k p c =
      either (is 'r' c) (one c GotR p (omega arith)) (either (is 'k' c) (one c GotK p (omega arith)) (either (is 'b' c) (one c GotB p (omega arith)) (either (is 'c' c) (one c GotC p (omega arith)) (either (starting L c) (one c InWord p (omega arith))
      (either (digit c) (num (is '0' c)) (either (is '#' c) (one c GotHash p (omega arith)) (either (is_symbol symbols c) (one c (Start false) p (omega arith)) (either (is 'single' c) (one c GotQuote p (omega arith)) (either (is 'double' c) (one c InString p (omega arith)) (either (smiling L c) (one c InBadWord p (omega arith)) (one c (Start false) p (omega arith))))))))))))
    where
      num : (s : Bool) → Small k (taken c (pick s GotZero InDigits) p)
      num true = one c GotZero p (omega arith)
      num false = one c InDigits p (omega arith)

  in_start : (k p : ℕ) (r : Bool) (c : ℕ) → Small k (at_start L p r c)
  unfolding at_start
  in_start k p r c = either (is '/' c) (none (OneSlash r) p (omega arith)) (either (is_whitespace c) (record { it = omega arith }) (in_other k p c))

  in_after : {k : ℕ} (u : List ℕ) (n : Next) → Small k n → Small k (preceded u n)
  in_after u n w = record { it = w.it }

  in_block_lem : (k : ℕ) (doc : Bool) (d : ℕ) (l : Last) (st c : ℕ) → d ≤ k → Small k (at_block doc d l st c)
  in_block_lem k doc d l st c h = record { it = mode d l h }
    where
      mode : (d : ℕ) (l : Last) → d ≤ k → deepest (in_block doc d l c) ≤ suc k
      mode d PlainChar h = omega (arith, h)
      mode d ASlash h = pk (is '*' c)
        where
          pk : (s : Bool) → deepest (pick s (Block doc (suc d) PlainChar) (Block doc d (last_of c))) ≤ suc k
          pk true = omega (arith, h)
          pk false = omega (arith, h)
      mode zero AStar h = pk (is '/' c)
        where
          pk : (s : Bool) → deepest (pick s (Start (not doc)) (Block doc 0 (last_of c))) ≤ suc k
          pk true = omega arith
          pk false = omega arith
      mode (suc d) AStar h = pk (is '/' c)
        where
          pk : (s : Bool) → deepest (pick s (Block doc d PlainChar) (Block doc (suc d) (last_of c))) ≤ suc k
          pk true = omega (arith, h)
          pk false = omega (arith, h)

  in_ident : (k st p c : ℕ) → Small k (at_ident L st p c)
  in_ident k st p c = either (going L c) (one c InWord st (omega arith)) (either (smiling L c) (one c InBadWord st (omega arith)) (in_start k p false c))

  in_suffix : (k st p c : ℕ) → Small k (at_suffix L st p c)
  in_suffix k st p c = either (starting L c) (one c InName st (omega arith)) (in_start k p false c)

  in_fr : (k st p c : ℕ) → Small k (at_fraction L st p c)
  in_fr k st p c = either (is 'dot' c) (one c GotDot st (omega arith)) (either (exponent_mark c) (one c GotE st (omega arith)) (in_suffix k st p c))

  in_exp : (k st p c : ℕ) → Small k (at_exponent L st p c)
  in_exp k st p c = either (decimals c) (one c InExponent st (omega arith)) (in_suffix k st p c)

  in_quoted : (k st c : ℕ) → Small k (at_quoted st c)
  in_quoted k st c = either (is 'single' c) (one c GotQuotes st (omega arith)) (either (or (is '/' c) (is 'newline' c)) (one c WantsQuote st (omega arith)) (either (is '\' c) (one c QuotesEscape st (omega arith)) (one c InQuotes st (omega arith))))

  in_life : (k st p c : ℕ) → Small k (at_life L st p c)
  in_life k st p c = either (going L c) (one c InLifetime st (omega arith)) (either (is 'single' c) (one c (Start false) st (omega arith)) (in_start k p false c))

  raw_deep : (k n j : ℕ) → n ≤ k → j ≤ suc k → deepest (raw_at n j) ≤ suc k
  raw_deep k n zero h i = go (ltb n 256)
    where
      go : (s : Bool) → deepest (pick s Suffix Broken) ≤ suc k
      go true = omega arith
      go false = omega arith
  raw_deep k n (suc j) h i = omega (arith, h, i)

  in_raw : (k st n c : ℕ) → n ≤ k → Small k (at_raw st n c)
  in_raw k st n c h = either (is 'double' c) (one c (raw_at n n) st (raw_deep k n n h (omega (arith, h)))) (one c (RawBody n) st (omega (arith, h)))

  in_hash : (k st p c : ℕ) → Small k (step L st p GotHash c)
  in_hash k st p c = either (hash_or_quote c) (one c (Start false) st (omega arith)) (in_start k p false c)

  in_open : (k st p n c : ℕ) → n ≤ k → Small k (step L st p (RawHashes n) c)
  in_open k st p n c h = either (is '#' c) (one c (RawHashes (suc n)) st (omega (arith, h))) (either (is 'double' c) (one c (RawBody n) st (omega (arith, h))) (none Broken st (omega arith)))

  -- mode by mode
  bound : (k st p : ℕ) (m : Mode) (c : ℕ) → deepest m ≤ k → Small k (step L st p m c)
  bound k st p (Start r) c h = in_start k p r c
  bound k st p (OneSlash r) c h = either (is '/' c) (none (TwoSlashes r) st (omega arith)) (either (is '*' c) (none (SlashStar r) st (omega arith)) (in_after ('/' ∷ []) (at_start L p false c) (in_start k p false c)))
  bound k st p (TwoSlashes r) c h =
      either (is '!' c) (in_after ('/' ∷ '/' ∷ []) (taken c DocLine st) (one c DocLine st (omega arith)))
      (either (is '/' c) (none (ThreeSlashes r) st (omega arith)) (in_after (gap_out r) (at_plain L st p c) (either (is 'newline' c) (in_start k p true c) (none PlainLine st (omega arith)))))
  bound k st p (ThreeSlashes r) c h =
      either (is '/' c) (in_after (gap_out r) (silent PlainLine st) (none PlainLine st (omega arith))) (in_after ('/' ∷ '/' ∷ '/' ∷ []) (at_doc L st p c) (either (is 'newline' c) (in_start k p false c) (one c DocLine st (omega arith))))
  bound k st p (SlashStar r) c h =
      either (is '!' c) (in_after ('/' ∷ '*' ∷ []) (at_block true 0 PlainChar st c) (in_block_lem k true 0 PlainChar st c (omega arith)))
      (either (is '*' c) (none (SlashStars r) st (omega arith)) (in_after (gap_out r) (at_block false 0 PlainChar st c) (in_block_lem k false 0 PlainChar st c (omega arith))))
  bound k st p (SlashStars r) c h =
      either (or (is '*' c) (is '/' c)) (in_after (gap_out r) (at_block false 0 AStar st c) (in_block_lem k false 0 AStar st c (omega arith))) (in_after ('/' ∷ '*' ∷ '*' ∷ []) (at_block true 0 AStar st c) (in_block_lem k true 0 AStar st c (omega arith)))
  bound k st p DocLine c h = either (is 'newline' c) (in_start k p false c) (one c DocLine st (omega arith))
  bound k st p PlainLine c h = either (is 'newline' c) (in_start k p true c) (none PlainLine st (omega arith))
  bound k st p (Block doc d x) c h = in_block_lem k doc d x st c h
  bound k st p InWord c h = in_ident k st p c
  bound k st p InBadWord c h = either (in_invalid L c) (one c InBadWord st (omega arith)) (in_start k p false c)
  bound k st p InName c h = either (going L c) (one c InName st (omega arith)) (in_start k p false c)
  bound k st p Suffix c h = in_suffix k st p c
  bound k st p InString c h = either (is 'double' c) (one c Suffix st (omega arith)) (either (is '\' c) (one c StringEscape st (omega arith)) (one c InString st (omega arith)))
  bound k st p StringEscape c h = one c InString st (omega arith)
  bound k st p Broken c h = none Broken st (omega arith)
  bound k st p GotR c h = either (is '#' c) (one c GotRHash st (omega arith)) (either (is 'double' c) (one c (RawBody 0) st (omega arith)) (in_ident k st p c))
  bound k st p GotRHash c h = either (starting L c) (one c InName st (omega arith)) (in_open k st p 1 c h)
  bound k st p GotK c h = either (is '#' c) (one c GotNameHash st (omega arith)) (in_ident k st p c)
  bound k st p GotNameHash c h = either (starting L c) (one c InName st (omega arith)) (in_hash k st p c)
  bound k st p GotB c h = either (is 'single' c) (one c GotByteQuote st (omega arith)) (either (is 'double' c) (one c InString st (omega arith)) (either (is 'r' c) (one c GotBR st (omega arith)) (in_ident k st p c)))
  bound k st p GotC c h = either (is 'double' c) (one c InString st (omega arith)) (either (is 'r' c) (one c GotBR st (omega arith)) (in_ident k st p c))
  bound k st p GotBR c h = either (is 'double' c) (one c (RawBody 0) st (omega arith)) (either (is '#' c) (one c (RawHashes 1) st (omega arith)) (in_ident k st p c))
  bound k st p GotHash c h = in_hash k st p c
  bound k st p GotQuote c h = either (naming L c) (one c (QuotedName (is 'r' c)) st (omega arith)) (in_quoted k st c)
  bound k st p GotByteQuote c h = in_quoted k st c
  bound k st p GotQuotes c h = either (is 'single' c) (one c Suffix st (omega arith)) (in_suffix k st p c)
  bound k st p WantsQuote c h = either (is 'single' c) (one c Suffix st (omega arith)) (none Broken st (omega arith))
  bound k st p (QuotedName r) c h = either (is 'single' c) (one c Suffix st (omega arith)) (either (and r (is '#' c)) (one c GotNameHash st (omega arith)) (in_life k st p c))
  bound k st p InLifetime c h = in_life k st p c
  bound k st p InQuotes c h = either (is 'single' c) (one c Suffix st (omega arith)) (either (is '/' c) (none Broken st (omega arith)) (either (is 'newline' c) (one c WantsQuote st (omega arith)) (either (is '\' c) (one c QuotesEscape st (omega arith)) (one c InQuotes st (omega arith)))))
  bound k st p QuotesEscape c h = one c InQuotes st (omega arith)
  bound k st p (RawHashes n) c h = in_open k st p n c h
  bound k st p (RawBody n) c h = in_raw k st n c h
  bound k st p (RawEnd n j) c h =
      let x : max n j ≤ k = h in
      either (is '#' c) (one c (raw_at n j) st (raw_deep k n j (omega (arith, x)) (omega (arith, x)))) (in_raw k st n c (omega (arith, x)))
  bound k st p GotZero c h = either (or (is 'b' c) (is 'o' c)) (one c (InBased false) st (omega arith)) (either (is 'x' c) (one c (InHex false) st (omega arith)) (either (decimals c) (one c InDigits st (omega arith)) (in_fr k st p c)))
  bound k st p InDigits c h = either (decimals c) (one c InDigits st (omega arith)) (in_fr k st p c)
  bound k st p (InBased x) c h = either (decimals c) (one c (InBased (or x (digit c))) st (omega arith)) (either x (in_fr k st p c) (in_suffix k st p c))
  bound k st p (InHex x) c h = either (hexadecimals c) (one c (InHex (or x (hex_digit c))) st (omega arith)) (either x (in_fr k st p c) (in_suffix k st p c))
  bound k st p GotDot c h = either (or (is 'dot' c) (starting L c)) (in_start k p false c) (either (digit c) (one c InFraction st (omega arith)) (in_start k p false c))
  bound k st p InFraction c h = either (decimals c) (one c InFraction st (omega arith)) (either (exponent_mark c) (one c GotE st (omega arith)) (in_suffix k st p c))
  bound k st p GotE c h = either (sign_mark c) (one c InExponent st (omega arith)) (in_exp k st p c)
  bound k st p InExponent c h = in_exp k st p c

-- A STEP ADDS ONE AT MOST to the largest number of a mode
pub step_deep : (L : Lists) (k st p : ℕ) (m : Mode) (c : ℕ) → deepest m ≤ k → deepest (step L st p m c).mode ≤ suc k
step_deep L k st p m c h = (bound L k st p m c h).it
