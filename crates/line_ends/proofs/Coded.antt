-- Line ends of bytes and of characters are the same ones: replacing them before decoding or after it gives the same, since a byte of a longer character is no ASCII.
use Prim.Native.Nat.{ℕ, ◌≤◌, ◌<◌}
use mathlib.Core.Path.{◌≡◌, refl, sym, ap, subst, ◌∙◌}
use mathlib.Core.List.{List, [], ◌∷◌, ◌++◌}
use mathlib.Core.Bool.{Bool, true, false, not}
use lib.ListN.{get_or, drop}
use lib.Dec.{ltb}
use borrow.Author.Tests.{ltb-true, ltb-false, ne_eqb}
use native.Mathlib.Omega.{arith}
use Rattle.basics.specs.Choice.{pick, and}
use Rattle.basics.proofs.Choices.{by_pick}
use Rattle.text.specs.Chars.{chars, size, encode_one, encode, Scalars, nil, cons, WellFormed}
use Rattle.text.proofs.Texts.{scalars, front, encode_chars, chars_encode, well_encode}
use Rattle.token.specs.Names.{is, 'newline', 'carriage_return'}
use Rattle.line_ends.specs.LineEnds.{replaced, no_cr_lf}
use Rattle.line_ends.proofs.Replaced.{both}

-- bytes that are no ASCII
data High : List ℕ → Type 0 where
  none : High []
  more : {b : ℕ} {l : List ℕ} → 0x80 ≤ b → High l → High (b ∷ l)

-- the bytes of a character: itself, or bytes that are no ASCII
data Spelling (c : ℕ) : List ℕ → Type 0 where
  low : c < 0x80 → Spelling c (c ∷ [])
  high : {b : ℕ} {l : List ℕ} → 0x80 ≤ c → High (b ∷ l) → Spelling c (b ∷ l)

-- how a character is spelled
spelling : (c : ℕ) → Spelling c (encode_one c)
unfolding encode_one
spelling c =
    by_pick (λ (l : List ℕ). Spelling c l) (ltb c 0x80) _ _ (λ t. low (ltb-true c 0x80 t))
    (λ f. by_pick (λ (l : List ℕ). Spelling c l) (ltb c 0x800) _ _ (λ t. high (ltb-false c 0x80 f) (more (omega arith) (more (omega arith) none)))
    (λ g. by_pick (λ (l : List ℕ). Spelling c l) (ltb c 0x10000) _ _ (λ t. high (ltb-false c 0x80 f) (more (omega arith) (more (omega arith) (more (omega arith) none))))
    (λ h. high (ltb-false c 0x80 f) (more (omega arith) (more (omega arith) (more (omega arith) (more (omega arith) none)))))))

-- such bytes are no CR and no LF, make no CR LF and are not replaced
high_is : (b x : ℕ) → 0x80 ≤ b → x < 0x80 → is x b ≡ false
high_is b x h k = ne_eqb b x (λ e. omega arith)

high_free : {u : List ℕ} → High u → (l : List ℕ) → no_cr_lf (u ++ l) ≡ no_cr_lf l
high_free none l = refl
high_free (more {b} h r) l = rw (high_is b 'carriage_return' h (omega arith)) (high_free r l)

high_un : {u : List ℕ} → High u → (l : List ℕ) → replaced (u ++ l) ≡ u ++ replaced l
high_un none l = refl
high_un (more {b} h r) l = rw (high_is b 'carriage_return' h (omega arith)) (ap (λ (z : List ℕ). b ∷ z) (high_un r l))

-- a text's first byte is LF exactly where its first character is
first_of : {c : ℕ} {u : List ℕ} → Spelling c u → (l : List ℕ) → is 'newline' (get_or (u ++ l) 0 0) ≡ is 'newline' c
first_of (low h) l = refl
first_of {c} (high {b} h (more k r)) l = rw (high_is b 'newline' k (omega arith), high_is c 'newline' h (omega arith))

first_encode : (cs : List ℕ) → is 'newline' (get_or (encode cs) 0 0) ≡ is 'newline' (get_or cs 0 0)
unfolding encode
first_encode [] = refl
first_encode (c ∷ cs) = first_of (spelling c) (encode cs)

-- CR LF IN BYTES is CR LF in characters
pub encode_free : (cs : List ℕ) → no_cr_lf (encode cs) ≡ no_cr_lf cs
unfolding encode
encode_free [] = refl
encode_free (c ∷ cs) = go (spelling c) (encode_free cs)
  where
    go : {u : List ℕ} → Spelling c u → no_cr_lf (encode cs) ≡ no_cr_lf cs → no_cr_lf (u ++ encode cs) ≡ no_cr_lf (c ∷ cs)
    go (low h) i = rw (first_encode cs, i)
    go (high h k) i = rw (high_is c 'carriage_return' h (omega arith)) (high_free k (encode cs) ∙ i)

-- replacing bytes is replacing characters
encode_un : (cs : List ℕ) → replaced (encode cs) ≡ encode (replaced cs)
unfolding encode
encode_un [] = refl
encode_un (c ∷ cs) = go (spelling c) refl (encode_un cs)
  where
    choose : encode_one c ≡ c ∷ [] → (b : Bool) (l : List ℕ) → pick b (encode l) (c ∷ encode l) ≡ encode (pick b l (c ∷ l))
    choose e true l = refl
    choose e false l = rw e

    go : {u : List ℕ} → Spelling c u → encode_one c ≡ u → replaced (encode cs) ≡ encode (replaced cs) → replaced (u ++ encode cs) ≡ encode (replaced (c ∷ cs))
    go (low h) e i = rw (first_encode cs, i) (choose e (and (is 'carriage_return' c) (is 'newline' (get_or cs 0 0))) (replaced cs))
    go (high {b} {l} h k) e i = rw (high_is c 'carriage_return' h (omega arith), e) (high_un k (encode cs) ∙ ap (λ (z : List ℕ). b ∷ l ++ z) i)

-- replaced characters are characters
un_scalars : {cs : List ℕ} → Scalars cs → Scalars (replaced cs)
un_scalars nil = nil
un_scalars (cons {c} {cs} h r) = by_pick (λ (l : List ℕ). Scalars l) (and (is 'carriage_return' c) (is 'newline' (get_or cs 0 0))) _ _ (λ t. un_scalars r) (λ f. cons h (un_scalars r))

-- REPLACING BEFORE DECODING is replacing after it
pub un_chars : (s : List ℕ) → WellFormed s → chars (replaced s) ≡ replaced (chars s)
un_chars s w = ap (λ (l : List ℕ). chars (replaced l)) (sym (encode_chars s w)) ∙ ap chars (encode_un (chars s)) ∙ chars_encode (un_scalars (scalars s))

-- the replaced text is well formed
pub un_well : (s : List ℕ) → WellFormed s → WellFormed (replaced s)
un_well s w = subst (λ (l : List ℕ). WellFormed l) (sym (encode_un (chars s)) ∙ ap replaced (encode_chars s w)) (well_encode (un_scalars (scalars s)))

-- the front of a text without CR LF has none
front_free : (u a : List ℕ) → no_cr_lf (u ++ a) ≡ true → no_cr_lf u ≡ true
front_free [] a h = refl
front_free (c ∷ []) a h = go (is 'carriage_return' c)
  where
    go : (b : Bool) → and (not (and b false)) true ≡ true
    go true = refl
    go false = refl
front_free (c ∷ d ∷ u) a h =
    let p = both (not (and (is 'carriage_return' c) (is 'newline' d))) (no_cr_lf (d ∷ u ++ a)) h in
    rw p.0 (front_free (d ∷ u) a p.1)

-- THE CHARACTERS of a text without CR LF have none
pub chars_of_free : (s : List ℕ) → no_cr_lf s ≡ true → no_cr_lf (chars s) ≡ true
chars_of_free s h = sym (encode_free (chars s)) ∙ front_free (encode (chars s)) (drop (size (chars s)) s) (ap no_cr_lf (front s) ∙ h)
