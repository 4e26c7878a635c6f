-- WHERE A TOKEN BEGINS: the step in mode Start does what the book's rule of the first character says. It is also the end of every mode in which a token may end before the next character (`again`).
use Prim.Native.Nat.{ℕ, ◌+◌}
use mathlib.Core.Path.{◌≡◌, refl, sym, ap, ◌∙◌}
use mathlib.Core.List.{List, [], ◌∷◌}
use mathlib.Core.Bool.{Bool, true, false}
use lib.ListN.{length, get_or}
use lib.Dec.{eqb}
use borrow.Author.Tests.{eqb-true, not-true}
use native.Mathlib.Nat.{add-zero}
use Rattle.basics.specs.Choice.{pick, and}
use Rattle.text.specs.Chars.{width}
use Rattle.classes.specs.Identifiers.{digit, letter, id_start}
use Rattle.classes.specs.Whitespace.{is_whitespace}
use Rattle.eaters.specs.Eat.{Got, Eater, give, eat, take_while, while, ◌>>=◌, choose}
use Rattle.eaters.specs.Look.{if_at}
use Rattle.token.specs.declared.LiteralKind.TheVariants.{Str, CStr, RawCStr}
use Rattle.token.specs.declared.TokenKind.{TokenKind}
use Rattle.token.specs.declared.TokenKind.TheVariants.{Unknown}
use Rattle.token.specs.Names.{is, 'double', '#', 'single', 'dot', '/', '0', 'b', 'c', 'k', 'r'}
use Rattle.token.specs.Lists.{Lists, starting, smiling}
use Rattle.token.specs.Literals.{literal}
use Rattle.token.specs.Comments.{slash}
use Rattle.token.specs.Words.{invalid_ident, ident_or_unknown_prefix}
use Rattle.token.specs.Quotes.{double_quoted}
use Rattle.token.specs.Numbers.{number}
use Rattle.token.specs.Lifetimes.{lifetime_or_char}
use Rattle.token.specs.Prefixed.{after_r, after_k, after_c, after_b}
use Rattle.token.specs.Punctuation.{Symbol, symbols, is_symbol, symbol_kind, hash_or_quote, pound}
use Rattle.token.specs.Advance.{plain}
use Rattle.token.specs.Trivia.{is_trivia}
use Rattle.canon.proofs.Sounds.{false_true}
use Rattle.canon.proofs.Advance.{not_trivia, white_not_slash}
use Rattle.machine.specs.declared.Mode.{Mode}
use Rattle.machine.specs.declared.Mode.TheVariants.{Start, InWord, InBadWord, InString, GotR, GotK, GotB, GotC, GotHash, GotQuote, GotZero, InDigits}
use Rattle.machine.specs.Machine.{put, Next, taken, at_other, at_start}
use Rattle.machine.proofs.Eating.{not_not, here}
use Rattle.machine.proofs.ByTokens.{whole, put_none, mark_put, judged, key_from, keep, close, close_keep, keep_here}
use Rattle.machine.proofs.ToCome.{string_rest, hash_rest, digits_rest, zero_rest, resume}
use Rattle.machine.proofs.Goes.{After, Keeps}
use Rattle.machine.proofs.Literals.{string_view}
use Rattle.machine.proofs.NumberRule.{number_view, other_view, zero_view}

-- no symbol is a broken token
all_whole : List Symbol → Bool
all_whole [] = true
all_whole (s ∷ l) = and (whole s.kind) (all_whole l)

symbol_whole : (l : List Symbol) (c : ℕ) → all_whole l ≡ true → whole (symbol_kind l Unknown c) ≡ true
unfolding all_whole
symbol_whole [] c h = refl
symbol_whole (s ∷ l) c h = go (whole s.kind) (eqb c s.code) refl h (symbol_whole l c)
  where
    go : (t e : Bool) → whole s.kind ≡ t → and t (all_whole l) ≡ true → (all_whole l ≡ true → whole (symbol_kind l Unknown c) ≡ true)
        → whole (pick e s.kind (symbol_kind l Unknown c)) ≡ true
    go false e q h r = false_true h
    go true true q h r = q
    go true false q h r = r h

module _ (L : Lists) where
  -- a run of whitespace is one newline: its first character says all
  white_one : (p : ℕ) (r : Bool) (cs : List ℕ) → key_from L (length (take_while is_whitespace cs)) p true cs ≡ key_from L 0 p true cs
  unfolding choose ◌>>=◌ while give
  white_one p r [] = refl
  white_one p r (c ∷ cs) = go (is_whitespace c) refl
    where
      go : (s : Bool) → is_whitespace c ≡ s → key_from L (length (pick s (c ∷ take_while is_whitespace cs) [])) p true (c ∷ cs) ≡ key_from L 0 p true (c ∷ cs)
      go true w = rw (white_not_slash c w, w, add-zero (length (take_while is_whitespace cs)))
      go false w = refl

  -- a step n over the first character c of a token, that is written; g: what the rule takes after c
  record Begins (p : ℕ) (c : ℕ) (cs : List ℕ) (n : Next) (g : Got TokenKind) : Type 0 where
    is_so : After L n (p + width c) cs ≡ put (c ∷ []) (keep L p (p + width c) (judged g) cs)

  -- by cases, as the machine and the book decide alike
  decide : {p c : ℕ} {cs : List ℕ} {x y : Next} (b : Bool) (m k : Eater TokenKind) → (b ≡ true → Begins p c cs x (m cs)) → (b ≡ false → Begins p c cs y (k cs)) → Begins p c cs (pick b x y) (choose b m k cs)
  unfolding choose
  decide {p} {c} {cs} {x} {y} b m k f g = go b refl
    where
      go : (s : Bool) → b ≡ s → Begins p c cs (pick s x y) (pick s (m cs) (k cs))
      go true e = f e
      go false e = g e

  -- the mode after c has k to come, which is what the rule takes
  opens : (p c : ℕ) (cs : List ℕ) (m : Mode) (k : Got Bool) (g : Got TokenKind) → resume L p (p + width c) m cs ≡ keep L p (p + width c) k cs → judged g ≡ k → Begins p c cs (taken c m p) g
  unfolding After
  opens p c cs m k g q e = record { is_so = ap (put (c ∷ [])) (q ∙ ap (λ (z : Got Bool). keep L p (p + width c) z cs) (sym e)) }

  -- one character alone
  one_view : (c : ℕ) (cs : List ℕ) → judged (give (symbol_kind symbols Unknown c) cs) ≡ here
  unfolding give all_whole
  one_view c cs = rw (symbol_whole symbols c refl)

  unknown_view : (cs : List ℕ) → judged (give Unknown cs) ≡ here
  unfolding give
  unknown_view cs = refl

  -- the rules of the tokens that begin with no slash and no whitespace
  abbrev other : ℕ → Eater TokenKind
  other c =
      choose (is 'r' c) (after_r L)
      (choose (is 'k' c) (after_k L)
      (choose (is 'b' c) (after_b L)
      (choose (is 'c' c) (after_c L CStr RawCStr)
      (choose (starting L c) (ident_or_unknown_prefix L)
      (choose (digit c) (literal L 1 (number L c))
      (choose (is '#' c) pound
      (choose (is_symbol symbols c) (give (symbol_kind symbols Unknown c))
      (choose (is 'single' c) (lifetime_or_char L)
      (choose (is 'double' c) (literal L 1 (double_quoted Str))
      (choose (smiling L c) (invalid_ident L)
      (give Unknown)))))))))))

  pound_view : (cs : List ℕ) → judged (pound cs) ≡ hash_rest cs
  unfolding if_at ◌>>=◌ eat give
  pound_view cs = go (hash_or_quote (get_or cs 0 0)) refl
    where
      go : (s : Bool) → hash_or_quote (get_or cs 0 0) ≡ s → judged (pound cs) ≡ record { took = pick s 1 0; said = true }
      go true e = rw e
      go false e = rw e

  -- THE FIRST CHARACTER, no slash and no whitespace
  others : (p c : ℕ) (cs : List ℕ) → Begins p c cs
      (at_other L p c)
      (other c cs)
  unfolding at_other
  others p c cs =
      decide (is 'r' c) (after_r L) _ (λ e. opens p c cs GotR (judged (after_r L cs)) (after_r L cs) refl refl)
      (λ e. decide (is 'k' c) (after_k L) _ (λ e. opens p c cs GotK (judged (after_k L cs)) (after_k L cs) refl refl)
      (λ e. decide (is 'b' c) (after_b L) _ (λ e. opens p c cs GotB (judged (after_b L cs)) (after_b L cs) refl refl)
      (λ e. decide (is 'c' c) (after_c L CStr RawCStr) _ (λ e. opens p c cs GotC (judged (after_c L CStr RawCStr cs)) (after_c L CStr RawCStr cs) refl refl)
      (λ e. decide (starting L c) (ident_or_unknown_prefix L) _ (λ e. opens p c cs InWord (judged (ident_or_unknown_prefix L cs)) (ident_or_unknown_prefix L cs) refl refl)
      (λ e. decide (digit c) (literal L 1 (number L c)) _ (λ e. num (is '0' c) refl)
      (λ e. decide (is '#' c) pound _ (λ e. opens p c cs GotHash (hash_rest cs) (pound cs) refl (pound_view cs))
      (λ e. decide (is_symbol symbols c) (give (symbol_kind symbols Unknown c)) _ (λ e. opens p c cs (Start false) here (give (symbol_kind symbols Unknown c) cs) (keep_here L p (p + width c) cs) (one_view c cs))
      (λ e. decide (is 'single' c) (lifetime_or_char L) _ (λ e. opens p c cs GotQuote (judged (lifetime_or_char L cs)) (lifetime_or_char L cs) refl refl)
      (λ e. decide (is 'double' c) (literal L 1 (double_quoted Str)) _ (λ e. opens p c cs InString (string_rest L cs) (literal L 1 (double_quoted Str) cs) refl (string_view L 1 Str cs not_not))
      (λ e. decide (smiling L c) (invalid_ident L) (give Unknown) (λ e. opens p c cs InBadWord (judged (invalid_ident L cs)) (invalid_ident L cs) refl refl)
      (λ e. opens p c cs (Start false) here (give Unknown cs) (keep_here L p (p + width c) cs) (unknown_view cs))))))))))))
    where
      num : (s : Bool) → is '0' c ≡ s → Begins p c cs (taken c (pick s GotZero InDigits) p) (literal L 1 (number L c) cs)
      num true e = opens p c cs GotZero (zero_rest L cs) (literal L 1 (number L c) cs) refl (number_view L c 1 cs ∙ rw (eqb-true c '0' e) (zero_view L cs))
      num false e = opens p c cs InDigits (digits_rest L cs) (literal L 1 (number L c) cs) refl (number_view L c 1 cs ∙ other_view L c cs e)

  -- THE FIRST CHARACTER, whichever it is
  pub begins : (p : ℕ) (r : Bool) (c : ℕ) (cs : List ℕ) → After L (at_start L p r c) (p + width c) cs ≡ key_from L 0 p r (c ∷ cs)
  begins p r c cs = go1 (is '/' c) refl
    where
      go2 : is '/' c ≡ false → (s : Bool) → is_whitespace c ≡ s → After L (at_start L p r c) (p + width c) cs ≡ key_from L 0 p r (c ∷ cs)
      go2 e1 true e = unfold choose After at_start ◌>>=◌ while give in rw (e1, e, add-zero (length (take_while is_whitespace cs)), white_one (p + width c) r cs) (sym (mark_put r (key_from L 0 (p + width c) true cs)))
      go2 e1 false e =
          let q : at_start L p r c ≡ (at_other L p c) = unfold at_start in rw (e1, e)
          in
          let t : plain L c cs ≡ other c cs = unfold choose in rw (e1, e) in
          ap (λ (n : Next). After L n (p + width c) cs) q ∙ (others p c cs).is_so ∙ close_keep L p (p + width c) r (c ∷ []) (other c cs) cs (ap (λ (g : Got TokenKind). is_trivia g.said) (sym t) ∙ not-true _ ((not_trivia L c e1 e).says cs)) ∙ ap (λ (g : Got TokenKind). close L p (p + width c) r (c ∷ []) g cs) (sym t)

      go1 : (s : Bool) → is '/' c ≡ s → After L (at_start L p r c) (p + width c) cs ≡ key_from L 0 p r (c ∷ cs)
      go1 true e = unfold choose After at_start in rw (eqb-true c '/' e) (put_none (close L p (p + width '/') r ('/' ∷ []) (slash cs) cs))
      go1 false e = go2 e (is_whitespace c) refl

  -- a hash or a dot that was taken for a part of the token before begins one of its own
  pub hash_again : (st p : ℕ) (cs : List ℕ) → put ('#' ∷ []) (keep L st (p + width '#') (hash_rest cs) cs) ≡ keep L st p here ('#' ∷ cs)
  unfolding After at_start at_other is_whitespace id_start letter
  hash_again st p cs = begins p false '#' cs ∙ keep_here L st p ('#' ∷ cs)

  pub dot_again : (st p : ℕ) (cs : List ℕ) → put ('dot' ∷ []) (key_from L 0 (p + width 'dot') false cs) ≡ keep L st p here ('dot' ∷ cs)
  unfolding After at_start at_other is_whitespace id_start letter
  dot_again st p cs = begins p false 'dot' cs ∙ keep_here L st p ('dot' ∷ cs)

-- the token ended before c, and the next one begins with c
pub again : {L : Lists} {st p c : ℕ} {cs : List ℕ} {g : Got Bool} → g ≡ here → Keeps L st p c cs (at_start L p false c) g
again {L} {st} {p} {c} {cs} e = record { is_so = begins L p false c cs ∙ keep_here L st p (c ∷ cs) ∙ ap (λ (z : Got Bool). keep L st p z (c ∷ cs)) (sym e) }
