-- Each rule of the book is sound: a term for each, which mirrors it.
use Rattle.std.specs.Prelude.{Option, None}
use Prim.Native.Nat.{ℕ, zero, suc, ◌≤◌}
use mathlib.Core.Path.{◌≡◌, refl, sym, ap, ◌∙◌}
use mathlib.Core.List.{List}
use mathlib.Core.Bool.{Bool, true, false, not}
use lib.ListN.{length}
use lib.Dec.{ltb}
use native.Mathlib.Omega.{arith}
use Rattle.basics.specs.Choice.{pick, and, or}
use Rattle.basics.proofs.Choices.{and_1, and_2}
use Rattle.classes.specs.Identifiers.{digit}
use Rattle.classes.specs.Whitespace.{is_whitespace}
use Rattle.eaters.specs.Eat.{Eater, give, eat, ◌>>=◌, ◌>>◌, choose}
use Rattle.eaters.specs.Scan.{Turn, taking, break_off, close, go, skip}
use Rattle.token.specs.declared.Base.{Base}
use Rattle.token.specs.declared.LiteralKind.{LiteralKind}
use Rattle.token.specs.declared.LiteralKind.TheVariants.{Char, Byte, Str, ByteStr, CStr, RawStr, RawByteStr, RawCStr}
use Rattle.token.specs.declared.TokenKind.{TokenKind}
use Rattle.token.specs.Names.{is, 'newline', 'double', '#', 'single', '*', '+', '-', 'dot', '/', '0', 'E', '\', 'b', 'c', 'e', 'k', 'o', 'r', 'x'}
use Rattle.token.specs.Lists.{Lists, starting, going, smiling}
use Rattle.token.specs.Literals.{identifier, Body, literal}
use Rattle.token.specs.Whitespace.{whitespace}
use Rattle.token.specs.Comments.{in_line, line_comment, block_turn, block_comment, slash}
use Rattle.token.specs.Words.{in_invalid, invalid_ident, prefix_mark, ident_or_unknown_prefix}
use Rattle.token.specs.Quotes.{double_turn, double_quoted, single_turn, single_quoted}
use Rattle.token.specs.RawStrings.{counted, uncounted, raw_string}
use Rattle.token.specs.Numbers.{any, decimals, hexadecimals, hex_digit, exponent, maybe_exponent, fraction, based, decimal, number}
use Rattle.token.specs.Lifetimes.{character, lifetime_rest, lifetime, naming, lifetime_or_char}
use Rattle.token.specs.Prefixed.{hashed, after_r, after_k, after_c, after_b}
use Rattle.token.specs.Punctuation.{symbols, is_symbol, hash_or_quote}
use Rattle.token.specs.Advance.{plain}
use Rattle.token.specs.Broken.{broken_literal, is_broken}
use Rattle.canon.specs.Fair.{Fair}
use Rattle.canon.specs.Local.{stills, Sound}
use Rattle.canon.proofs.Sounds.{false_true, none_at, always, Quiet, quiet, quiet_or, sound_wider, sound_more, sound_give, sound_choose, sound_if_at, sound_if_two, sound_if_second, sound_texted, sound_eat, sound_any, sound_run, sound_while, sound_bind, sound_then, sound_say, sound_if_taking, sound_if_eat}
use Rattle.canon.proofs.Scans.{found, Ends, sound_scan, scan_some, sound_first_with}
use Rattle.canon.proofs.Stills.{start_none, end_starts, line_starts, line_goes, end_smiles, line_smiles, line_invalid, invalid_takes}

-- a turn that ends the search
ended : Turn → Bool
ended (taking zero zero) = true
ended (taking zero (suc d)) = false
ended (taking (suc k) d) = false
ended break_off = false

not_ended : {X : Type 0} (z : Turn) → ended z ≡ false → z ≡ close → X
unfolding ended
not_ended z f e = false_true (sym f ∙ ap ended e)

block_ends : Ends block_turn
unfolding ended
block_ends d c e f h = by (and (is '/' c) (is '*' e)) (and (is '*' c) (is '/' e)) h
  where
    by : {X : Type 0} (s t : Bool) → pick s (skip (suc (suc d))) (pick t (skip d) (go (suc d))) ≡ close → X
    by true t h = not_ended (skip (suc (suc d))) refl h
    by false true h = not_ended (skip d) refl h
    by false false h = not_ended (go (suc d)) refl h

double_ends : Ends double_turn
unfolding ended
double_ends d c e f h =
    by (pick (and (is '\' c) (or (is '\' f) (is 'double' f))) (skip (suc d)) (go (suc d))) (is 'double' c) (and (is '\' c) (or (is '\' e) (is 'double' e))) h
  where
    by : (x : Turn) (s t : Bool) → pick s close (pick t (skip (suc d)) (go (suc d))) ≡ close → pick s close x ≡ close
    by x true t h = refl
    by x false true h = not_ended (skip (suc d)) refl h
    by x false false h = not_ended (go (suc d)) refl h

single_ends : Ends single_turn
unfolding ended
single_ends d c e f h =
    by (pick (is '/' c) break_off (pick (and (is 'newline' c) (not (is 'single' f))) break_off (pick (is '\' c) (skip (suc d)) (go (suc d))))) (is 'single' c) (is '/' c) (and (is 'newline' c) (not (is 'single' e))) (is '\' c) h
  where
    by : (x : Turn) (s t r q : Bool) → pick s close (pick t break_off (pick r break_off (pick q (skip (suc d)) (go (suc d))))) ≡ close → pick s close x ≡ close
    by x true t r q h = refl
    by x false true r q h = not_ended break_off refl h
    by x false false true q h = not_ended break_off refl h
    by x false false false true h = not_ended (skip (suc d)) refl h
    by x false false false false h = not_ended (go (suc d)) refl h

-- kinds of literals by whether they end, and by their count of hashes
abbrev Marks : (Bool → LiteralKind) → Type 0
Marks mk = (b : Bool) → broken_literal (mk b) ≡ not b

abbrev Counts : (Option ℕ → LiteralKind) → Type 0
Counts mk = broken_literal (mk None) ≡ true

abbrev broken_body : Body → Bool
broken_body b = broken_literal b.kind

-- a word that is said last
said_last : {A B : Type 0} (g : B → Bool) (m : Eater A) (x : B) (cs : List ℕ) → g ((m >> give x) cs).said ≡ true → g x ≡ true
unfolding ◌>>=◌ give
said_last g m x cs h = h

-- a scan that is chosen where a test holds
sound_if : {A : Type 0} {g : A → Bool} {n : ℕ} {this that : Eater A} (s : Bool) → (s ≡ true → Sound n g this) → Sound n g that → Sound n g (choose s this that)
unfolding choose
sound_if true x y = x refl
sound_if false x y = y

-- Whether locality is asked for too: then the list of id start has to be good.
module _ (asked : Bool) where
  -- what is said is good: locality is asked for, and it is not broken
  abbrev pub whole : {A : Type 0} → (A → Bool) → A → Bool
  whole broken x = and asked (not (broken x))

  kept : (t : Bool) → and asked (not (not t)) ≡ true → t ≡ true
  kept true e = refl
  kept false e = and_2 asked false e

  lost : {X : Type 0} (t : Bool) → t ≡ true → and asked (not t) ≡ true → X
  lost t h e = false_true (sym (ap not h) ∙ and_2 asked (not t) e)

  -- comments
  line_sound : {n : ℕ} → Sound n (whole is_broken) line_comment
  line_sound = sound_then (sound_while in_line refl) (λ t. sound_give _)

  block_sound : {n : ℕ} → Sound n (whole is_broken) block_comment
  block_sound = sound_say _ (sound_texted (sound_scan block_turn 0 1 block_ends)) (λ r h. kept r.said h)

  slash_sound : Sound 0 (whole is_broken) slash
  slash_sound = sound_if_eat (is '/') refl refl line_sound (sound_if_eat (is '*') refl refl block_sound (sound_give _))

  -- whitespace goes on over a newline, so it is sound only where locality is not asked for
  white_sound : (asked ≡ true → false ≡ true) → Sound 0 (whole is_broken) whitespace
  white_sound h = sound_say _ (sound_run is_whitespace {g = λ t. asked} (λ t k. false_true (h k))) (λ t k. and_1 asked _ k)

  -- quoted literals
  double_sound : (mk : Bool → LiteralKind) → Marks mk → Sound 0 (whole broken_body) (double_quoted mk)
  double_sound mk m = sound_say _ (sound_scan double_turn 0 1 double_ends) (λ t h. kept t (rw (m t) at h))

  single_sound : (mk : Bool → LiteralKind) → Marks mk → Sound 0 (whole broken_body) (single_quoted mk)
  single_sound mk m =
      sound_say _
      (sound_if_second (λ c. not (is '\' c)) (is 'single') (quiet _ refl) (sound_then (sound_eat 2) (λ x. sound_give true)) (sound_scan single_turn 0 1 single_ends) two (scan_some single_turn 0))
      (λ t h. kept t (rw (m t) at h))
    where
      two : (cs : List ℕ) → found ((eat 2 >> give true) cs).said ≡ true → 1 ≤ ((eat 2 >> give true) cs).took
      two cs k = unfold ◌>>=◌ eat give in (omega arith)

  raw_sound : (mk : Option ℕ → LiteralKind) → Counts mk → Sound 0 (whole broken_body) (raw_string mk)
  raw_sound mk m =
      sound_then (sound_while (is '#') refl)
      (λ h. sound_if_eat (is 'double') refl refl
      (sound_say _ (sound_first_with 'double' '#' (length h)) (λ t k. ends t (ltb (length h) 256) (length h) k))
      (sound_say _ (sound_any {g = λ x. false} refl) (λ x k. lost _ m k)))
    where
      ends : (t s : Bool) (n : ℕ) → whole broken_body (pick (and t s) (counted mk n) (uncounted mk)) ≡ true → t ≡ true
      ends true s n k = refl
      ends false s n k = lost _ m k

  -- the exponent of a number
  exponent_sound : (base : Base) → Sound 0 (whole broken_body) (exponent base)
  exponent_sound base =
      sound_then (sound_if_eat (λ c. or (is '-' c) (is '+' c)) refl refl (sound_give tt) (sound_give tt))
      (λ x. sound_then (sound_while decimals refl) (λ t. sound_give _))

  maybe_sound : (base : Base) (x : Body) → Sound 0 (whole broken_body) (maybe_exponent base x)
  maybe_sound base x = sound_if_eat (λ c. or (is 'e' c) (is 'E' c)) refl refl (exponent_sound base) (sound_give x)

  module _ (L : Lists) where
    identifier_sound : {n : ℕ} → Sound n always (identifier L)
    identifier_sound =
        sound_if_eat (starting L) (end_starts L) (line_starts L) (sound_then (sound_while (going L) (line_goes L)) (λ t. sound_give tt)) (sound_give tt)

    literal_sound : {n : ℕ} (before : ℕ) {body : Eater Body} → Sound n (whole broken_body) body → Sound n (whole is_broken) (literal L before body)
    literal_sound before s =
        sound_bind (sound_texted s) (λ r. sound_then (sound_choose r.said.suffixed identifier_sound (sound_give tt)) (λ x. sound_give _)) (λ r cs h. said_last (whole is_broken) _ _ cs h)

    invalid_sound : {n : ℕ} → Sound n (whole is_broken) (invalid_ident L)
    invalid_sound = sound_then (sound_while (in_invalid L) (line_invalid L)) (λ t. sound_give _)

    -- a hash, and an identifier that starts after it
    hashed_sound : (k : TokenKind) → Sound 2 (whole is_broken) (hashed L k)
    hashed_sound k = sound_then (sound_then (sound_wider (omega arith) (sound_eat 1)) (λ x. identifier_sound)) (λ t. sound_give k)

    rest_sound : {n : ℕ} (numbered : Bool) (before : ℕ) → Sound n (whole is_broken) (lifetime_rest L numbered before)
    rest_sound numbered before =
        sound_then (sound_while (going L) (line_goes L))
        (λ t. sound_if_eat (is 'single') refl refl (sound_give _)
        (sound_choose numbered (sound_give _)
        (sound_if_at (is '#') (quiet _ refl) (sound_give _) (sound_give _))))

    lifetime_sound : (numbered : Bool) → Sound 1 (whole is_broken) (lifetime L numbered)
    lifetime_sound numbered = sound_then (sound_texted (sound_eat 1)) (λ r. rest_sound numbered _)

    character_sound : Sound 0 (whole is_broken) (character L)
    character_sound = literal_sound 1 (single_sound Char (λ b. refl))

    module _ (fair : asked ≡ true → Fair L) where
      starts_quiet : {A : Type 0} (broken : A → Bool) → Quiet (whole broken) (starting L)
      starts_quiet broken =
          record { end = end_starts L; still = λ x k c i. none_at (starting L) stills c (start_none (fair (and_1 asked _ k))) i }

      word_sound : {n : ℕ} → Sound n (whole is_broken) (ident_or_unknown_prefix L)
      word_sound =
          sound_then (sound_while (going L) (line_goes L))
          (λ t. sound_if_at prefix_mark (quiet _ refl) (sound_give _)
          (sound_if_taking (smiling L) (end_smiles L) (line_smiles L) invalid_sound (sound_give _) (invalid_takes L)))

      -- numbers
      fraction_sound : (base : Base) → Sound 0 (whole broken_body) (fraction L base)
      fraction_sound base =
          sound_if_two (is 'dot') (λ c. or (is 'dot' c) (starting L c)) (quiet _ refl) (quiet_or (quiet (is 'dot') refl) (starts_quiet broken_body)) (sound_give _)
          (sound_if_eat (is 'dot') refl refl
          (sound_if_at digit (quiet _ refl) (sound_then (sound_while decimals refl) (λ t. maybe_sound base _)) (sound_give _))
          (maybe_sound base _))

      based_sound : (base : Base) (p one : ℕ → Bool) → p 'newline' ≡ false → Sound 0 (whole broken_body) (based L base p one)
      based_sound base p one h = sound_then (sound_while p h) (λ t. sound_choose (any one t) (fraction_sound base) (sound_give _))

      decimal_sound : Sound 0 (whole broken_body) (decimal L)
      decimal_sound = sound_then (sound_while decimals refl) (λ t. fraction_sound _)

      number_sound : (c : ℕ) → Sound 0 (whole broken_body) (number L c)
      number_sound c =
          sound_choose (is '0' c)
          (sound_if_eat (is 'b') refl refl (based_sound _ decimals digit refl)
          (sound_if_eat (is 'o') refl refl (based_sound _ decimals digit refl)
          (sound_if_eat (is 'x') refl refl (based_sound _ hexadecimals hex_digit refl)
          decimal_sound)))
          decimal_sound

      -- lifetimes and characters
      quote_sound : Sound 0 (whole is_broken) (lifetime_or_char L)
      quote_sound =
          sound_if_two (naming L) (is 'single') (quiet_or (starts_quiet is_broken) (quiet digit refl)) (quiet _ refl) (sound_more character_sound)
          (sound_if_eat (is 'r') refl refl
          (sound_if_two (is '#') (starting L) (quiet _ refl) (starts_quiet is_broken)
          (sound_then (sound_then (sound_eat 2) (λ x. sound_while (going L) (line_goes L))) (λ t. sound_give _))
          (rest_sound false 2))
          (sound_if_at digit (quiet _ refl) (lifetime_sound true)
          (sound_if_at (starting L) (starts_quiet is_broken) (lifetime_sound false)
          character_sound)))

      -- r, k, b, c
      r_sound : Sound 0 (whole is_broken) (after_r L)
      r_sound =
          sound_if_two (is '#') (starting L) (quiet _ refl) (starts_quiet is_broken) (hashed_sound _)
          (sound_if_at hash_or_quote (quiet _ refl) (sound_more (literal_sound 1 (raw_sound RawStr refl))) word_sound)

      k_sound : Sound 0 (whole is_broken) (after_k L)
      k_sound = sound_if_two (is '#') (starting L) (quiet _ refl) (starts_quiet is_broken) (hashed_sound _) word_sound

      c_sound : (mk : Bool → LiteralKind) (raw : Option ℕ → LiteralKind) → Marks mk → Counts raw → Sound 0 (whole is_broken) (after_c L mk raw)
      c_sound mk raw m r =
          sound_if_eat (is 'double') refl refl (literal_sound 2 (double_sound mk m))
          (sound_if_two (is 'r') hash_or_quote (quiet _ refl) (quiet _ refl)
          (sound_then (sound_wider (omega arith) (sound_eat 1)) (λ x. literal_sound 2 (raw_sound raw r)))
          word_sound)

      b_sound : Sound 0 (whole is_broken) (after_b L)
      b_sound = sound_if_eat (is 'single') refl refl (literal_sound 2 (single_sound Byte (λ b. refl))) (c_sound ByteStr RawByteStr (λ b. refl) refl)

      -- THE DECISION, where it is not of whitespace or locality is not asked for
      pub plain_sound : (c : ℕ) → (asked ≡ true → is_whitespace c ≡ false) → Sound 0 (whole is_broken) (plain L c)
      plain_sound c w =
          sound_choose (is '/' c) slash_sound
          (sound_if (is_whitespace c) (λ e. white_sound (λ k. sym (w k) ∙ e))
          (sound_choose (is 'r' c) r_sound
          (sound_choose (is 'k' c) k_sound
          (sound_choose (is 'b' c) b_sound
          (sound_choose (is 'c' c) (c_sound CStr RawCStr (λ b. refl) refl)
          (sound_choose (starting L c) word_sound
          (sound_choose (digit c) (literal_sound 1 (number_sound c))
          (sound_choose (is '#' c) (sound_if_eat hash_or_quote refl refl (sound_give _) (sound_give _))
          (sound_choose (is_symbol symbols c) (sound_give _)
          (sound_choose (is 'single' c) quote_sound
          (sound_choose (is 'double' c) (literal_sound 1 (double_sound Str (λ b. refl)))
          (sound_choose (smiling L c) invalid_sound
          (sound_give _)))))))))))))
