-- The quote that begins a lifetime or a character, and lifetimes: modes GotQuote, QuotedName, InLifetime.
use Prim.Native.Nat.{ℕ, ◌+◌}
use mathlib.Core.Path.{◌≡◌, refl, sym, ap, ◌∙◌}
use mathlib.Core.List.{List, [], ◌∷◌}
use mathlib.Core.Bool.{Bool, true, false}
use lib.ListN.{length, get_or, drop}
use borrow.Author.Tests.{eqb-true}
use native.Mathlib.Nat.{add-zero}
use Rattle.basics.specs.Choice.{pick, and}
use Rattle.text.specs.Chars.{size}
use Rattle.classes.specs.Identifiers.{digit, letter, id_start, id_continue}
use Rattle.eaters.specs.Eat.{give, eat, take_while, while, ◌>>=◌, texted, choose}
use Rattle.eaters.specs.Look.{if_at, if_two}
use Rattle.token.specs.Names.{is, '#', 'single', '\', 'r'}
use Rattle.token.specs.Lists.{Lists, starting, going}
use Rattle.token.specs.Lifetimes.{lifetime_rest, lifetime, raw_name, after_quote_r, naming, lifetime_or_char}
use Rattle.canon.proofs.Sounds.{false_true}
use Rattle.machine.specs.declared.Mode.TheVariants.{Suffix, GotQuote, QuotedName, InLifetime}
use Rattle.machine.specs.Machine.{at_life, step}
use Rattle.machine.proofs.Eating.{suc_add, one_add, two_add, left, right, more, here, or_no, one_then, two_no, two_not, two_yes, if_no, if_yes}
use Rattle.machine.proofs.ByTokens.{judged}
use Rattle.machine.proofs.ToCome.{name_rest, suffix_rest, quoted_rest, life_rest, r_name_rest, quoted_name_rest}
use Rattle.machine.proofs.Goes.{Keeps, cases, seen, kept, closes, alike, kept_or}
use Rattle.machine.proofs.Begins.{again}
use Rattle.machine.proofs.Prefixed.{hash_after}
use Rattle.machine.proofs.Quotes.{char_view, quoted_two, at_quoted_lem}

module _ (L : Lists) where
  hash_goes_not : going L '#' ≡ false
  unfolding id_continue letter
  hash_goes_not = refl

  -- the rest of a lifetime, by its rule
  life_more : (b : Bool) (k x : ℕ) (ds : List ℕ) → going L x ≡ true → judged (lifetime_rest L b k (x ∷ ds)) ≡ more (judged (lifetime_rest L b k ds))
  unfolding ◌>>=◌ while if_at give eat
  life_more b k x ds e = go (is 'single' (get_or (drop (length (take_while (going L) ds)) ds) 0 0)) refl
    where
      go : (s : Bool) → is 'single' (get_or (drop (length (take_while (going L) ds)) ds) 0 0) ≡ s → judged (lifetime_rest L b k (x ∷ ds)) ≡ more (judged (lifetime_rest L b k ds))
      go true h = rw (e, h, suc_add (length (take_while (going L) ds)) (1 + 0))
      go false h = rw (e, h, suc_add)

  life_view : (b : Bool) (k : ℕ) (ds : List ℕ) → judged (lifetime_rest L b k ds) ≡ life_rest L ds
  unfolding ◌>>=◌ while if_at choose give eat
  life_view true k [] = refl
  life_view false k [] = refl
  life_view b k (x ∷ ds) = go (going L x) refl (is 'single' x) refl (life_view b k ds)
    where
      said : (y z : Bool) → is '#' x ≡ y → b ≡ z → going L x ≡ false → is 'single' x ≡ false → judged (lifetime_rest L b k (x ∷ ds)) ≡ here
      said y true h i e f = rw (i, e, f)
      said true false h i e f = rw (i, e, f, h)
      said false false h i e f = rw (i, e, f, h)

      go : (s : Bool) → going L x ≡ s → (t : Bool) → is 'single' x ≡ t → judged (lifetime_rest L b k ds) ≡ life_rest L ds → judged (lifetime_rest L b k (x ∷ ds)) ≡ pick s (more (life_rest L ds)) (pick t (more here) here)
      go true e t f i = life_more b k x ds e ∙ ap more i
      go false e true f i = rw (e, f)
      go false e false f i = said (is '#' x) b refl refl e f

  -- \ begins no name, r begins one
  escape_names_not : naming L '\' ≡ false
  unfolding id_start letter
  escape_names_not = refl

  r_names : naming L 'r' ≡ true
  unfolding id_start letter
  r_names = refl

  module _ (c : ℕ) (cs : List ℕ) where
    -- after the quote, by the first character: it and then a quote are a character
    quote_two : naming L c ≡ true → is 'single' (get_or cs 0 0) ≡ true → judged (lifetime_or_char L (c ∷ cs)) ≡ more (more (suffix_rest L (drop 1 cs)))
    quote_two e f = ap judged (two_yes (naming L) (is 'single') _ _ c cs e f) ∙ char_view L (c ∷ cs) ∙ quoted_two L c cs (go (is '\' c) refl) f
      where
        go : (s : Bool) → is '\' c ≡ s → s ≡ false
        go true h = false_true (sym escape_names_not ∙ sym (ap (naming L) (eqb-true c '\' h)) ∙ e)
        go false h = refl

    -- no quote comes after it: a lifetime
    named_view : (b : Bool) → judged (lifetime L b (c ∷ cs)) ≡ more (life_rest L cs)
    unfolding ◌>>=◌ texted eat
    named_view b = rw (one_add (lifetime_rest L b (1 + size (c ∷ [])) cs).took) (ap more (life_view b (1 + size (c ∷ [])) cs))

    quote_digit : is 'single' (get_or cs 0 0) ≡ false → is 'r' c ≡ false → digit c ≡ true → judged (lifetime_or_char L (c ∷ cs)) ≡ more (life_rest L cs)
    quote_digit f g e = ap judged (two_not (naming L) (is 'single') _ _ c cs f ∙ if_no (is 'r') _ _ c cs g ∙ if_yes digit _ _ c cs e) ∙ named_view true

    quote_id : is 'single' (get_or cs 0 0) ≡ false → is 'r' c ≡ false → digit c ≡ false → starting L c ≡ true → judged (lifetime_or_char L (c ∷ cs)) ≡ more (life_rest L cs)
    quote_id f g e h = ap judged (two_not (naming L) (is 'single') _ _ c cs f ∙ if_no (is 'r') _ _ c cs g ∙ if_no digit _ _ c cs e ∙ if_yes (starting L) _ _ c cs h) ∙ named_view false

    -- it begins no name: a character
    quote_none : naming L c ≡ false → judged (lifetime_or_char L (c ∷ cs)) ≡ quoted_rest L (c ∷ cs)
    quote_none e =
        ap judged (two_no (naming L) (is 'single') _ _ c cs e ∙ if_no (is 'r') _ _ c cs (go (is 'r' c) refl) ∙ if_no digit _ _ c cs (right (starting L c) (digit c) e) ∙ if_no (starting L) _ _ c cs (left (starting L c) (digit c) e))
        ∙ char_view L (c ∷ cs)
      where
        go : (s : Bool) → is 'r' c ≡ s → s ≡ false
        go true h = false_true (sym e ∙ ap (naming L) (eqb-true c 'r' h) ∙ r_names)
        go false h = refl

  module _ (cs : List ℕ) where
    -- a raw lifetime or one that is named r.., by its rule
    two_view : judged (after_quote_r L cs) ≡ r_name_rest L cs
    unfolding if_two ◌>>=◌ eat while give
    two_view = go (and (is '#' (get_or cs 0 0)) (starting L (get_or cs 1 0))) (life_view false 2 cs)
      where
        go : (s : Bool) → judged (lifetime_rest L false 2 cs) ≡ life_rest L cs → judged (pick s (raw_name L cs) (lifetime_rest L false 2 cs)) ≡ pick s (more (more (name_rest L (drop 2 cs)))) (life_rest L cs)
        go true i = rw (add-zero, two_add)
        go false i = i

  module _ (c : ℕ) (cs : List ℕ) where
    quote_r : is 'single' (get_or cs 0 0) ≡ false → is 'r' c ≡ true → judged (lifetime_or_char L (c ∷ cs)) ≡ more (r_name_rest L cs)
    quote_r f g = ap judged (two_not (naming L) (is 'single') _ _ c cs f ∙ if_yes (is 'r') _ _ c cs g ∙ one_then (after_quote_r L) c cs) ∙ ap more (two_view cs)

    -- no quote comes after a character that may begin a name
    quote_one : is 'single' (get_or cs 0 0) ≡ false → naming L c ≡ true → judged (lifetime_or_char L (c ∷ cs)) ≡ more (pick (is 'r' c) (r_name_rest L cs) (life_rest L cs))
    quote_one f e = go (is 'r' c) refl (digit c) refl (starting L c) refl
      where
        go : (y : Bool) → is 'r' c ≡ y → (x : Bool) → digit c ≡ x → (z : Bool) → starting L c ≡ z → judged (lifetime_or_char L (c ∷ cs)) ≡ more (pick y (r_name_rest L cs) (life_rest L cs))
        go true b x a z d = quote_r f b
        go false b true a z d = quote_digit c cs f b a
        go false b false a true d = quote_id c cs f b a d
        go false b false a false d = false_true (sym (or_no d a) ∙ e)

  module _ (st p c : ℕ) (cs : List ℕ) where
    pub at_life_lem : Keeps L st p c cs (at_life L st p c) (life_rest L (c ∷ cs))
    at_life_lem = kept_or (going L c) InLifetime (life_rest L cs) refl (alike (is 'single' c) (λ e. closes refl) (λ e. again refl))

    pub at_quoted_name : (r : Bool) → Keeps L st p c cs (step L st p (QuotedName r) c) (quoted_name_rest L r (c ∷ cs))
    at_quoted_name true = kept_or (is 'single' c) Suffix (suffix_rest L cs) refl (cases (is '#' c) (λ f. hash_after L st p c cs (λ g. rw (f, g)) (λ g. rw (eqb-true c '#' f, g, hash_goes_not)) f) (λ f. seen at_life_lem (rw f)))
    at_quoted_name false = kept_or (is 'single' c) Suffix (suffix_rest L cs) refl at_life_lem

    pub at_quote : Keeps L st p c cs (step L st p GotQuote c) (judged (lifetime_or_char L (c ∷ cs)))
    at_quote = cases (naming L c) (λ e. kept (QuotedName (is 'r' c)) (quoted_name_rest L (is 'r' c) cs) refl (go e (is 'single' (get_or cs 0 0)) refl)) (λ e. seen (at_quoted_lem L st p c cs) (quote_none c cs e))
      where
        go : naming L c ≡ true → (s : Bool) → is 'single' (get_or cs 0 0) ≡ s → judged (lifetime_or_char L (c ∷ cs)) ≡ more (pick s (more (suffix_rest L (drop 1 cs))) (pick (is 'r' c) (r_name_rest L cs) (life_rest L cs)))
        go e true f = quote_two c cs e f
        go e false f = quote_one c cs f e
