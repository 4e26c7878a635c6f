-- Single quotes, of a byte or a character: modes GotByteQuote, GotQuotes, WantsQuote, InQuotes, QuotesEscape.
use Prim.Native.Nat.{ℕ}
use mathlib.Core.Path.{◌≡◌, refl, sym, ap, ◌∙◌}
use mathlib.Core.List.{List, [], ◌∷◌}
use mathlib.Core.Bool.{Bool, true, false, not}
use lib.ListN.{get_or, drop}
use lib.Dec.{eqb}
use borrow.Author.Tests.{eqb-true}
use Rattle.basics.specs.Choice.{pick, and, or}
use Rattle.eaters.specs.Eat.{Got, give, eat, ◌>>=◌}
use Rattle.eaters.specs.Look.{if_two}
use Rattle.eaters.specs.Scan.{scan}
use Rattle.token.specs.declared.LiteralKind.TheVariants.{Char}
use Rattle.token.specs.Names.{is, 'newline', 'single', '/', '\'}
use Rattle.token.specs.Lists.{Lists}
use Rattle.token.specs.Quotes.{single_turn}
use Rattle.token.specs.Lifetimes.{character}
use Rattle.canon.proofs.Sounds.{false_true}
use Rattle.machine.specs.declared.Mode.TheVariants.{Suffix, GotQuotes, WantsQuote, InQuotes, QuotesEscape}
use Rattle.machine.specs.Machine.{taken, at_quoted, step}
use Rattle.machine.proofs.Eating.{not_not, one_add, two_add, left, right, more, done, or_no, two_no, two_not}
use Rattle.machine.proofs.ByTokens.{judged}
use Rattle.machine.proofs.ToCome.{unended, suffix_rest, then_suffix, closed_or, quotes_rest, quoted_rest}
use Rattle.machine.proofs.Goes.{Keeps, cases, seen, kept, lost, lost_in, kept_or}
use Rattle.machine.proofs.Literals.{lit_more, single_view}
use Rattle.machine.proofs.Words.{at_suffix_lem}

-- a character is only one
other_than : (c a b : ℕ) → is a c ≡ true → eqb a b ≡ false → is b c ≡ false
other_than c a b e f = ap (is b) (eqb-true c a e) ∙ f

-- what breaks single quotes off, at c with the characters cs after it
abbrev stops : (c : ℕ) → List ℕ → Bool
stops c cs = or (is '/' c) (and (is 'newline' c) (not (is 'single' (get_or cs 0 0))))

module _ (L : Lists) where
  -- a quote comes
  quoted_end : (cs : List ℕ) → is 'single' (get_or cs 0 0) ≡ true → quotes_rest L 0 cs ≡ more (suffix_rest L (drop 1 cs))
  unfolding scan
  quoted_end [] e = false_true e
  quoted_end (c ∷ cs) e = rw (eqb-true c 'single' e, done single_turn cs, one_add)

  -- a character in quotes, by its rule
  pub char_view : (cs : List ℕ) → judged (character L cs) ≡ quoted_rest L cs
  char_view cs = single_view L 1 Char cs not_not

  module _ (c : ℕ) (cs : List ℕ) where
    -- after the opening quote: a character and then a quote, or the scan
    pub quoted_two : is '\' c ≡ false → is 'single' (get_or cs 0 0) ≡ true → quoted_rest L (c ∷ cs) ≡ more (more (suffix_rest L (drop 1 cs)))
    unfolding if_two ◌>>=◌ eat give
    quoted_two e f = rw (e, f, two_add (suffix_rest L (drop 1 cs)).took)

    quoted_on : is 'single' (get_or cs 0 0) ≡ false → quoted_rest L (c ∷ cs) ≡ quotes_rest L 0 (c ∷ cs)
    quoted_on f = ap (λ (g : Got Bool). then_suffix L g (c ∷ cs)) (two_not (λ c. not (is '\' c)) (is 'single') _ _ c cs f)

    -- in the scan
    scan_quote : is 'single' c ≡ true → quotes_rest L 0 (c ∷ cs) ≡ more (suffix_rest L cs)
    unfolding scan
    scan_quote e = rw (e, done single_turn cs, one_add)

    scan_stop : stops c cs ≡ true → is 'single' c ≡ false → quotes_rest L 0 (c ∷ cs) ≡ unended
    unfolding scan
    scan_stop e f = go (is '/' c) refl (and (is 'newline' c) (not (is 'single' (get_or cs 0 0)))) refl
      where
        go : (x : Bool) → is '/' c ≡ x → (y : Bool) → and (is 'newline' c) (not (is 'single' (get_or cs 0 0))) ≡ y → quotes_rest L 0 (c ∷ cs) ≡ unended
        go true a y b = rw (f, a)
        go false a true b = rw (f, a, b)
        go false a false b = false_true (sym (or_no a b) ∙ e)

    scan_esc : is '\' c ≡ true → quotes_rest L 0 (c ∷ cs) ≡ more (quotes_rest L 1 cs)
    unfolding scan
    scan_esc e = rw (eqb-true c '\' e) (lit_more L (scan single_turn 1 1 cs) '\' cs)

    scan_more : is 'single' c ≡ false → stops c cs ≡ false → is '\' c ≡ false → quotes_rest L 0 (c ∷ cs) ≡ more (quotes_rest L 0 cs)
    unfolding scan
    scan_more f e g = rw (f, left (is '/' c) (and (is 'newline' c) (not (is 'single' (get_or cs 0 0)))) e, right (is '/' c) (and (is 'newline' c) (not (is 'single' (get_or cs 0 0)))) e, g) (lit_more L (scan single_turn 0 1 cs) c cs)

    esc_on : quotes_rest L 1 (c ∷ cs) ≡ more (quotes_rest L 0 cs)
    unfolding scan
    esc_on = lit_more L (scan single_turn 0 1 cs) c cs

    -- what breaks off, and what does not
    stops_slash : is '/' c ≡ true → stops c cs ≡ true
    stops_slash e = rw e

    stops_line : is 'newline' c ≡ true → is 'single' (get_or cs 0 0) ≡ false → stops c cs ≡ true
    stops_line e f = rw (eqb-true c 'newline' e, f)

    goes_line : is '/' c ≡ false → is 'newline' c ≡ true → is 'single' (get_or cs 0 0) ≡ true → stops c cs ≡ false
    goes_line e f g = rw (eqb-true c 'newline' f, g)

    goes_on : is '/' c ≡ false → is 'newline' c ≡ false → stops c cs ≡ false
    goes_on e f = rw (e, f)

    -- after the opening quote, by the first character
    quoted_quote : is 'single' c ≡ true → quoted_rest L (c ∷ cs) ≡ more (closed_or L cs (suffix_rest L cs))
    quoted_quote e = go (is 'single' (get_or cs 0 0)) refl
      where
        go : (s : Bool) → is 'single' (get_or cs 0 0) ≡ s → quoted_rest L (c ∷ cs) ≡ more (pick s (more (suffix_rest L (drop 1 cs))) (suffix_rest L cs))
        go true f = quoted_two (other_than c 'single' '\' e refl) f
        go false f = quoted_on f ∙ scan_quote e

    quoted_escape : is '\' c ≡ true → quoted_rest L (c ∷ cs) ≡ more (quotes_rest L 1 cs)
    quoted_escape e =
        let q : not (is '\' c) ≡ false = rw e in
        ap (λ (g : Got Bool). then_suffix L g (c ∷ cs)) (two_no (λ c. not (is '\' c)) (is 'single') _ _ c cs q) ∙ scan_esc e

    quoted_else : is 'single' c ≡ false → or (is '/' c) (is 'newline' c) ≡ false → is '\' c ≡ false → quoted_rest L (c ∷ cs) ≡ more (quotes_rest L 0 cs)
    quoted_else e f g = go (is 'single' (get_or cs 0 0)) refl
      where
        go : (s : Bool) → is 'single' (get_or cs 0 0) ≡ s → quoted_rest L (c ∷ cs) ≡ more (quotes_rest L 0 cs)
        go true h = quoted_two g h ∙ ap more (sym (quoted_end cs h))
        go false h = quoted_on h ∙ scan_more e (goes_on (left (is '/' c) (is 'newline' c) f) (right (is '/' c) (is 'newline' c) f)) g

    slash_or : or (is '/' c) (is 'newline' c) ≡ true → (a : ℕ) → eqb '/' a ≡ false → eqb 'newline' a ≡ false → is a c ≡ false
    slash_or e a x y = go (is '/' c) refl (is 'newline' c) refl
      where
        go : (s : Bool) → is '/' c ≡ s → (t : Bool) → is 'newline' c ≡ t → is a c ≡ false
        go true f t g = other_than c '/' a f x
        go false f true g = other_than c 'newline' a g y
        go false f false g = false_true (sym (or_no f g) ∙ e)

    stops_or : or (is '/' c) (is 'newline' c) ≡ true → is 'single' (get_or cs 0 0) ≡ false → stops c cs ≡ true
    stops_or e f = rw f (go (is '/' c) (is 'newline' c) e)
      where
        go : (s t : Bool) → or s t ≡ true → or s (and t true) ≡ true
        go true t e = refl
        go false true e = refl
        go false false e = e

  module _ (st p c : ℕ) (cs : List ℕ) where
    pub at_quotes : Keeps L st p c cs (step L st p GotQuotes c) (closed_or L (c ∷ cs) (suffix_rest L (c ∷ cs)))
    at_quotes = kept_or (is 'single' c) Suffix (suffix_rest L cs) refl (at_suffix_lem L st p c cs)

    pub at_wants_quote : Keeps L st p c cs (step L st p WantsQuote c) (closed_or L (c ∷ cs) unended)
    at_wants_quote = kept_or (is 'single' c) Suffix (suffix_rest L cs) refl (lost unended refl)

    -- / or a newline was read, and a quote has to come
    one_quote : (g : Got Bool) → (is 'single' (get_or cs 0 0) ≡ true → g ≡ more (more (suffix_rest L (drop 1 cs)))) → (is 'single' (get_or cs 0 0) ≡ false → g ≡ unended) → Keeps L st p c cs (taken c WantsQuote st) g
    one_quote g h k = go (is 'single' (get_or cs 0 0)) refl
      where
        go : (s : Bool) → is 'single' (get_or cs 0 0) ≡ s → Keeps L st p c cs (taken c WantsQuote st) g
        go true e = kept WantsQuote (more (suffix_rest L (drop 1 cs))) (rw e) (h e)
        go false e = lost_in WantsQuote g (rw e) (ap (λ (z : Got Bool). z.said) (k e))

    pub at_in_quotes : Keeps L st p c cs (step L st p InQuotes c) (quotes_rest L 0 (c ∷ cs))
    at_in_quotes =
        cases (is 'single' c) (λ e. kept Suffix (suffix_rest L cs) refl (scan_quote c cs e))
        (λ e. cases (is '/' c) (λ f. seen (lost unended refl) (scan_stop c cs (stops_slash c cs f) e))
        (λ f. cases (is 'newline' c) (λ g. one_quote (quotes_rest L 0 (c ∷ cs)) (λ h. scan_more c cs e (goes_line c cs f g h) (other_than c 'newline' '\' g refl) ∙ ap more (quoted_end cs h)) (λ h. scan_stop c cs (stops_line c cs g h) e))
        (λ g. cases (is '\' c) (λ h. kept QuotesEscape (quotes_rest L 1 cs) refl (scan_esc c cs h)) (λ h. kept InQuotes (quotes_rest L 0 cs) refl (scan_more c cs e (goes_on c cs f g) h)))))

    pub at_quotes_escape : Keeps L st p c cs (step L st p QuotesEscape c) (quotes_rest L 1 (c ∷ cs))
    at_quotes_escape = kept InQuotes (quotes_rest L 0 cs) refl (esc_on c cs)

    pub at_quoted_lem : Keeps L st p c cs (at_quoted st c) (quoted_rest L (c ∷ cs))
    at_quoted_lem =
        cases (is 'single' c) (λ e. kept GotQuotes (closed_or L cs (suffix_rest L cs)) refl (quoted_quote c cs e))
        (λ e. cases (or (is '/' c) (is 'newline' c)) (λ f. one_quote (quoted_rest L (c ∷ cs)) (λ h. quoted_two c cs (slash_or c cs f '\' refl refl) h) (λ h. quoted_on c cs h ∙ scan_stop c cs (stops_or c cs f h) e))
        (λ f. cases (is '\' c) (λ g. kept QuotesEscape (quotes_rest L 1 cs) refl (quoted_escape c cs g)) (λ g. kept InQuotes (quotes_rest L 0 cs) refl (quoted_else c cs e f g))))
