-- The characters of a text: one at a time; how many bytes they take; and the round trip between texts and characters.
use Prim.Native.Nat.{ℕ, zero, suc, ◌≤◌, zero-le}
use mathlib.Core.Path.{◌≡◌, refl, sym, ap, subst, ◌∙◌}
use mathlib.Core.List.{List, [], ◌∷◌, ◌++◌, append_assoc, append-nil}
use lib.Dec.{ltb}
use lib.ListN.{length, drop, length-append, length-drop}
use lib.Seq.{drop-drop, drop-length, drop-append_seam}
use native.Mathlib.Omega.{arith}
use Rattle.basics.proofs.Choices.{by_pick}
use Rattle.text.specs.declared.Decoded.{Decoded}
use Rattle.text.specs.declared.Decoded.TheVariants.{Char, End, Ill}
use Rattle.text.specs.Utf8.{decoded}
use Rattle.text.specs.Chars.{chars_after, chars, width, size, encode_one, encode, Scalars, nil, cons, WellFormed}
use Rattle.text.proofs.Coding.{Fact, FactOf, fact, back, length_encode_one}

after : (k : ℕ) (s : List ℕ) → chars_after k s ≡ chars (drop k s)
unfolding chars_after
after zero [] = refl
after (suc k) [] = refl
after zero (a ∷ s) = refl
after (suc k) (a ∷ s) = after k s

-- one character's step of the definition
abbrev pub Step : List ℕ → Decoded → Type 0
Step s (Char c w) = chars s ≡ c ∷ chars (drop w s)
Step s End = chars s ≡ []
Step s (Ill k) = chars s ≡ []

step_cons : (a : ℕ) (s : List ℕ) (d : Decoded) → decoded (a ∷ s) ≡ d → FactOf (a ∷ s) d → Step (a ∷ s) d
unfolding chars_after
step_cons a s (Char c zero) e f = let z : 1 ≤ 0 = f.some in absurd (omega arith)
step_cons a s (Char c (suc w)) e f = rw (e, chars_after) (ap (λ (l : List ℕ). c ∷ l) (after w s))
step_cons a s End e f = rw (e, chars_after)
step_cons a s (Ill k) e f = rw (e, chars_after)

step : (s : List ℕ) → Step s (decoded s)
step [] = unfold chars_after decoded in refl
step (a ∷ s) = step_cons a s (decoded (a ∷ s)) refl (fact (a ∷ s))

pub stepped : (s : List ℕ) {d : Decoded} → decoded s ≡ d → Step s d
stepped s e = subst (λ (d : Decoded). Step s d) e (step s)

pub told : (s : List ℕ) {d : Decoded} → decoded s ≡ d → FactOf s d
told s e = subst (λ (d : Decoded). FactOf s d) e (fact s)

-- An induction over the characters of a text: what holds at the end, at an ill-formed sequence, and of a character if of the text after it.
module _ (P : List ℕ → Type 0)
    (none : (s : List ℕ) → chars s ≡ [] → P s)
    (more : (s : List ℕ) (c w : ℕ) → decoded s ≡ Char c w → Fact s c w → chars s ≡ c ∷ chars (drop w s) → P (drop w s) → P s)
  where
    by_one : (n : ℕ) (s : List ℕ) (d : Decoded) → decoded s ≡ d → length s ≤ suc n → ((t : List ℕ) → length t ≤ n → P t) → P s
    by_one n s (Char c w) e l ih = more s c w e (told s e) (stepped s e) (ih (drop w s) (omega (arith, length-drop w s, (told s e).some)))
    by_one n s End e l ih = none s (stepped s e)
    by_one n s (Ill k) e l ih = none s (stepped s e)

    by_length : (n : ℕ) (s : List ℕ) → length s ≤ n → P s
    by_length zero [] l = none [] (unfold chars_after in refl)
    by_length zero (a ∷ s) l = absurd (omega arith)
    by_length (suc n) s l = by_one n s (decoded s) refl l (by_length n)

    pub by_chars : (s : List ℕ) → P s
    by_chars s = by_length (length s) s (omega arith)

-- the characters of a text are scalar values
pub scalars : (s : List ℕ) → Scalars (chars s)
scalars = by_chars (λ (s : List ℕ). Scalars (chars s)) (λ s e. rw e nil) (λ s c w d f e ih. rw e (cons f.scalar ih))

-- they encode to its front
pub front : (s : List ℕ) → encode (chars s) ++ drop (size (chars s)) s ≡ s
unfolding encode
front = by_chars (λ (s : List ℕ). encode (chars s) ++ drop (size (chars s)) s ≡ s) (λ s e. rw e)
    (λ s c w d f e ih. rw (e, append_assoc, f.wide, ← drop-drop (size (chars (drop w s))) w s, ih) f.coded)

pub length_encode : (cs : List ℕ) → length (encode cs) ≡ size cs
unfolding encode
length_encode [] = refl
length_encode (c ∷ cs) = rw (length-append (encode_one c) (encode cs), length_encode_one c, length_encode cs)

-- no character takes a byte that is not there
pub size_chars : (s : List ℕ) → size (chars s) ≤ length s
size_chars s = omega (arith, simp (length-append, length_encode) at (ap length (front s)))

-- a character has at least one byte
pub width_some : (c : ℕ) → 1 ≤ width c
unfolding width
width_some c =
    by_pick (λ (n : ℕ). 1 ≤ n) (ltb c 0x80) _ _ (λ t. omega arith)
    (λ t. by_pick (λ (n : ℕ). 1 ≤ n) (ltb c 0x800) _ _ (λ t. omega arith) (λ t. by_pick (λ (n : ℕ). 1 ≤ n) (ltb c 0x10000) _ _ (λ t. omega arith) (λ t. omega arith)))

pub few_chars : (cs : List ℕ) → length cs ≤ size cs
few_chars [] = zero-le
few_chars (c ∷ cs) = omega (arith, few_chars cs, width_some c)

-- encoding what was decoded gives the text back
pub encode_chars : (s : List ℕ) → WellFormed s → encode (chars s) ≡ s
encode_chars s v = sym (append-nil (encode (chars s))) ∙ ap (λ (l : List ℕ). encode (chars s) ++ l) (sym (drop-length s) ∙ ap (λ (k : ℕ). drop k s) (sym v)) ∙ front s

-- decoding an encoding gives the characters back, whatever text follows it
pub chars_encode_append : {cs : List ℕ} (t : List ℕ) → Scalars cs → chars (encode cs ++ t) ≡ cs ++ chars t
unfolding encode
chars_encode_append t nil = refl
chars_encode_append t (cons {c} {cs} h r) =
    rw append_assoc (stepped _ (back c (encode cs ++ t) h) ∙ ap (λ (l : List ℕ). c ∷ chars l) (ap (λ (k : ℕ). drop k (encode_one c ++ (encode cs ++ t))) (sym (length_encode_one c)) ∙ drop-append_seam (encode_one c) (encode cs ++ t)) ∙ ap (λ (l : List ℕ). c ∷ l) (chars_encode_append t r))

pub chars_encode : {cs : List ℕ} → Scalars cs → chars (encode cs) ≡ cs
chars_encode {cs} h = ap chars (sym (append-nil (encode cs))) ∙ chars_encode_append [] h ∙ (unfold chars_after in append-nil cs)

-- a text is well-formed exactly where it is the encoding of some list of scalar values
pub well_encode : {cs : List ℕ} → Scalars cs → WellFormed (encode cs)
well_encode {cs} h = ap size (chars_encode h) ∙ sym (length_encode cs)

pub record Encoding (s cs : List ℕ) : Type 0 where
  pub scalar : Scalars cs
  pub bytes : encode cs ≡ s

pub well_is_encoding : (s : List ℕ) → WellFormed s → Encoding s (chars s)
well_is_encoding s v = record { scalar = scalars s; bytes = encode_chars s v }

pub encoding_is_well : {s cs : List ℕ} → Encoding s cs → WellFormed s
encoding_is_well e = subst (λ (t : List ℕ). WellFormed t) e.bytes (well_encode e.scalar)

-- and that list is unique
pub one_encoding : {s cs ds : List ℕ} → Encoding s cs → Encoding s ds → cs ≡ ds
one_encoding p q = sym (chars_encode p.scalar) ∙ ap chars (p.bytes ∙ sym q.bytes) ∙ chars_encode q.scalar
