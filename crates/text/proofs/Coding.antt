-- A character and its bytes: what decodes encodes to the same bytes, and what encodes decodes to the same character.
use Prim.Native.Nat.{ℕ, ◌+◌, ◌/◌, ◌%◌, ◌≤◌, ◌<◌}
use mathlib.Core.Path.{◌≡◌, refl, ap, ◌∙◌}
use mathlib.Core.List.{List, [], ◌∷◌, ◌++◌}
use mathlib.Core.Logic.{inl, inr, ⊎_elim}
use borrow.Author.Tests.{lt-ltb, le-ltb}
use lib.ListN.{length, drop}
use native.Mathlib.Omega.{arith}
use native.Mathlib.Nat.{div-div-eq-div-mul}
use Rattle.basics.proofs.Choices.{below_or_not, inside_within}
use Rattle.text.specs.declared.Decoded.{Decoded}
use Rattle.text.specs.declared.Decoded.TheVariants.{Char, End, Ill}
use Rattle.text.specs.Utf8 as utf8
use Rattle.text.specs.Utf8.{byte, value2, value3, value4, decoded}
use Rattle.text.specs.Next.{Tail}
use Rattle.text.specs.Chars.{Scalar, width, encode_one}
use Rattle.text.proofs.Bytes.{byte_in}
use Rattle.text.proofs.Rows.{row_00, row_C2, row_E0, row_E1, row_ED, row_EE, row_F0, row_F1, row_F4}
use Rattle.text.proofs.Views.{View, end, ill, one, two, three, four, view}

-- the bytes of a character, by its width
module _ (c : ℕ) where
  width_1 : c < 0x80 → width c ≡ 1
  unfolding width
  width_1 h = rw (lt-ltb c 0x80 h)

  width_2 : 0x80 ≤ c → c < 0x800 → width c ≡ 2
  unfolding width
  width_2 l h = rw (le-ltb c 0x80 l, lt-ltb c 0x800 h)

  width_3 : 0x800 ≤ c → c < 0x10000 → width c ≡ 3
  unfolding width
  width_3 l h = rw (le-ltb c 0x80 (omega arith), le-ltb c 0x800 l, lt-ltb c 0x10000 h)

  width_4 : 0x10000 ≤ c → width c ≡ 4
  unfolding width
  width_4 l = rw (le-ltb c 0x80 (omega arith), le-ltb c 0x800 (omega arith), le-ltb c 0x10000 l)

  encode_1 : c < 0x80 → encode_one c ≡ c ∷ []
  unfolding encode_one
  encode_1 h = rw (lt-ltb c 0x80 h)

  encode_2 : 0x80 ≤ c → c < 0x800 → encode_one c ≡ (0xC0 + c / 0x40) ∷ (0x80 + c % 0x40) ∷ []
  unfolding encode_one
  encode_2 l h = rw (le-ltb c 0x80 l, lt-ltb c 0x800 h)

  encode_3 : 0x800 ≤ c → c < 0x10000 → encode_one c ≡ (0xE0 + c / 0x1000) ∷ (0x80 + c / 0x40 % 0x40) ∷ (0x80 + c % 0x40) ∷ []
  unfolding encode_one
  encode_3 l h = rw (le-ltb c 0x80 (omega arith), le-ltb c 0x800 l, lt-ltb c 0x10000 h)

  encode_4 : 0x10000 ≤ c → encode_one c ≡ (0xF0 + c / 0x40000) ∷ (0x80 + c / 0x1000 % 0x40) ∷ (0x80 + c / 0x40 % 0x40) ∷ (0x80 + c % 0x40) ∷ []
  unfolding encode_one
  encode_4 l = rw (le-ltb c 0x80 (omega arith), le-ltb c 0x800 (omega arith), le-ltb c 0x10000 l)

-- what a decoded character says
pub record Fact (s : List ℕ) (c w : ℕ) : Type 0 where
  pub some : 1 ≤ w
  pub wide : width c ≡ w
  pub room : w ≤ length s
  pub scalar : Scalar c
  pub coded : encode_one c ++ drop w s ≡ s

abbrev pub FactOf : List ℕ → Decoded → Type 0
FactOf s (Char c w) = Fact s c w
FactOf s End = s ≡ []
FactOf s (Ill k) = 0 < length s

fact_of : {s : List ℕ} {d : Decoded} → View s d → FactOf s d
fact_of end = refl
fact_of ill = omega arith
fact_of (one {a} h) =
    record { some = omega arith; wide = width_1 a (omega arith); room = omega arith; scalar = inl (omega arith); coded = rw (encode_1 a (omega arith)) }
fact_of (two {a} {b} l h tb) =
    let v = value2 a b in
    let e₁ : 0xC0 + v / 0x40 ≡ a = omega arith in
    let e₂ : 0x80 + v % 0x40 ≡ b = omega arith in
    record {
      some = omega arith;
      wide = width_2 v (omega arith) (omega arith);
      room = omega arith;
      scalar = inl (omega arith);
      coded = rw (encode_2 v (omega arith) (omega arith), e₁, e₂);
    }
fact_of (three {a} {b} {c} l h tb tc m sc) =
    let v = value3 a b c in
    let e₁ : 0xE0 + v / 0x1000 ≡ a = omega arith in
    let e₂ : 0x80 + v / 0x40 % 0x40 ≡ b = omega arith in
    let e₃ : 0x80 + v % 0x40 ≡ c = omega arith in
    record {
      some = omega arith;
      wide = width_3 v m (omega arith);
      room = omega arith;
      scalar = sc;
      coded = rw (encode_3 v m (omega arith), e₁, e₂, e₃);
    }
fact_of (four {a} {b} {c} {d} l h tb tc td m t) =
    let v = value4 a b c d in
    let e₁ : 0xF0 + v / 0x40000 ≡ a = omega arith in
    let e₂ : 0x80 + v / 0x1000 % 0x40 ≡ b = omega arith in
    let e₃ : 0x80 + v / 0x40 % 0x40 ≡ c = omega arith in
    let e₄ : 0x80 + v % 0x40 ≡ d = omega arith in
    record {
      some = omega arith;
      wide = width_4 v m;
      room = omega arith;
      scalar = inr (omega arith, t);
      coded = rw (encode_4 v m, e₁, e₂, e₃, e₄);
    }

pub fact : (s : List ℕ) → FactOf s (decoded s)
fact s = fact_of (view s)

-- a byte that has to come next and does
byte_within : (low high b : ℕ) (s : List ℕ) (f : ℕ → List ℕ → Decoded) → low ≤ b → b ≤ high → byte low high (b ∷ s) f ≡ f b s
byte_within low high b s f l h = byte_in low high f b s (inside_within low high b l h)

in_two : (a b : ℕ) (s : List ℕ) → Tail b → utf8.two a 0x80 0xBF (b ∷ s) ≡ Char (value2 a b) 2
unfolding utf8.two
in_two a b s t = byte_within 0x80 0xBF b s _ t.least t.most

in_three : (a low high b c : ℕ) (s : List ℕ) → low ≤ b → b ≤ high → Tail c → utf8.three a low high (b ∷ c ∷ s) ≡ Char (value3 a b c) 3
unfolding utf8.three
in_three a low high b c s l h t = byte_within low high b (c ∷ s) _ l h ∙ byte_within 0x80 0xBF c s _ t.least t.most

in_four : (a low high b c d : ℕ) (s : List ℕ) → low ≤ b → b ≤ high → Tail c → Tail d → utf8.four a low high (b ∷ c ∷ d ∷ s) ≡ Char (value4 a b c d) 4
unfolding utf8.four
in_four a low high b c d s l h t u =
    byte_within low high b (c ∷ d ∷ s) _ l h ∙ byte_within 0x80 0xBF c (d ∷ s) _ t.least t.most ∙ byte_within 0x80 0xBF d s _ u.least u.most

-- a scalar value's bytes, whatever follows them, decode to it: by its width, and then by the row of its first byte
module _ (v : ℕ) (t : List ℕ) where
  back_1 : v < 0x80 → decoded (v ∷ t) ≡ Char v 1
  unfolding decoded
  back_1 h = row_00 v t (omega arith) (omega arith)

  back_2 : 0x80 ≤ v → v < 0x800 → decoded ((0xC0 + v / 0x40) ∷ (0x80 + v % 0x40) ∷ t) ≡ Char v 2
  unfolding decoded
  back_2 l h =
      let a = 0xC0 + v / 0x40 in
      let b = 0x80 + v % 0x40 in
      let e : value2 a b ≡ v = omega arith in
      row_C2 a (b ∷ t) (omega arith) (omega arith) ∙ in_two a b t (record { least = omega arith; most = omega arith }) ∙ ap (λ (n : ℕ). Char n 2) e

  back_3 : 0x800 ≤ v → v < 0x10000 → Scalar v → decoded ((0xE0 + v / 0x1000) ∷ (0x80 + v / 0x40 % 0x40) ∷ (0x80 + v % 0x40) ∷ t) ≡ Char v 3
  unfolding decoded
  back_3 l h sc =
      let a = 0xE0 + v / 0x1000 in
      let b = 0x80 + v / 0x40 % 0x40 in
      let c = 0x80 + v % 0x40 in
      let q : v / 0x40 / 0x40 ≡ v / 0x1000 = div-div-eq-div-mul v 0x40 0x40 in
      let e : value3 a b c ≡ v = omega arith in
      let tc : Tail c = record { least = omega arith; most = omega arith } in
      let low_ED : (a ≡ 0xED → b ≤ 0x9F) = λ p. ⊎_elim (λ k. omega arith) (λ k. absurd (omega (arith, k.0))) sc in
      ⊎_elim (λ k. row_E0 a (b ∷ c ∷ t) (omega arith) (omega arith) ∙ in_three a 0xA0 0xBF b c t (omega arith) (omega arith) tc)
      (λ k. ⊎_elim (λ m. row_E1 a (b ∷ c ∷ t) (omega arith) (omega arith) ∙ in_three a 0x80 0xBF b c t (omega arith) (omega arith) tc)
      (λ m. ⊎_elim (λ n. row_ED a (b ∷ c ∷ t) (omega arith) (omega arith) ∙ in_three a 0x80 0x9F b c t (omega arith) (low_ED (omega arith)) tc)
      (λ n. row_EE a (b ∷ c ∷ t) (omega arith) (omega arith) ∙ in_three a 0x80 0xBF b c t (omega arith) (omega arith) tc)
      (below_or_not a 0xEE)) (below_or_not a 0xED)) (below_or_not a 0xE1)
      ∙ ap (λ (n : ℕ). Char n 3) e

  back_4 : 0x10000 ≤ v → v < 0x110000 → decoded ((0xF0 + v / 0x40000) ∷ (0x80 + v / 0x1000 % 0x40) ∷ (0x80 + v / 0x40 % 0x40) ∷ (0x80 + v % 0x40) ∷ t) ≡ Char v 4
  unfolding decoded
  back_4 l h =
      let a = 0xF0 + v / 0x40000 in
      let b = 0x80 + v / 0x1000 % 0x40 in
      let c = 0x80 + v / 0x40 % 0x40 in
      let d = 0x80 + v % 0x40 in
      let q : v / 0x40 / 0x40 ≡ v / 0x1000 = div-div-eq-div-mul v 0x40 0x40 in
      let r : v / 0x1000 / 0x40 ≡ v / 0x40000 = div-div-eq-div-mul v 0x1000 0x40 in
      let e : value4 a b c d ≡ v = omega arith in
      let tc : Tail c = record { least = omega arith; most = omega arith } in
      let td : Tail d = record { least = omega arith; most = omega arith } in
      ⊎_elim (λ k. row_F0 a (b ∷ c ∷ d ∷ t) (omega arith) (omega arith) ∙ in_four a 0x90 0xBF b c d t (omega arith) (omega arith) tc td)
      (λ k. ⊎_elim (λ m. row_F1 a (b ∷ c ∷ d ∷ t) (omega arith) (omega arith) ∙ in_four a 0x80 0xBF b c d t (omega arith) (omega arith) tc td)
      (λ m. row_F4 a (b ∷ c ∷ d ∷ t) (omega arith) (omega arith) ∙ in_four a 0x80 0x8F b c d t (omega arith) (omega arith) tc td)
      (below_or_not a 0xF4)) (below_or_not a 0xF1)
      ∙ ap (λ (n : ℕ). Char n 4) e

top : {v : ℕ} → Scalar v → v < 0x110000
top (inl h) = omega arith
top (inr h) = h.1

pub back : (v : ℕ) (t : List ℕ) → Scalar v → decoded (encode_one v ++ t) ≡ Char v (width v)
back v t sc =
    ⊎_elim (λ h. rw (encode_1 v h, width_1 v h) (back_1 v t h))
    (λ l. ⊎_elim (λ h. rw (encode_2 v l h, width_2 v l h) (back_2 v t l h))
    (λ m. ⊎_elim (λ h. rw (encode_3 v m h, width_3 v m h) (back_3 v t m h sc))
    (λ n. rw (encode_4 v n, width_4 v n) (back_4 v t n (top sc)))
    (below_or_not v 0x10000)) (below_or_not v 0x800)) (below_or_not v 0x80)

-- a character's bytes are as many as its width
pub length_encode_one : (c : ℕ) → length (encode_one c) ≡ width c
length_encode_one c =
    ⊎_elim (λ h. rw (encode_1 c h, width_1 c h))
    (λ l. ⊎_elim (λ h. rw (encode_2 c l h, width_2 c l h))
    (λ m. ⊎_elim (λ h. rw (encode_3 c m h, width_3 c m h)) (λ n. rw (encode_4 c n, width_4 c n)) (below_or_not c 0x10000))
    (below_or_not c 0x800)) (below_or_not c 0x80)
