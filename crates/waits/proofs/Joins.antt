-- WELL-FORMED BYTES, AND MORE: characters, and what refuses the bytes, are those of the two parts.
use Rattle.std.specs.Prelude.{Err}
use Prim.Native.Nat.{ℕ, ◌+◌}
use mathlib.Core.Path.{◌≡◌, refl, sym, ap, subst, ◌∙◌}
use mathlib.Core.Bool.{true}
use mathlib.Core.List.{List, [], ◌∷◌, ◌++◌, append_assoc}
use mathlib.Core.Logic.{◌⊎◌, inl, inr, ⊎_elim}
use lib.ListN.{length, take, drop, length-append}
use lib.Seq.{take_at, drop-append-le, drop-append-add}
use lib.Dec.{eqb}
use borrow.Author.Tests.{eqb-true, eqb-false, eq-eqb, ne_eqb}
use native.Mathlib.Omega.{arith}
use Rattle.basics.proofs.Choices.{yes_or_no}
use Rattle.refusal.specs.declared.Cause.{Cause}
use Rattle.refusal.specs.declared.Cause.TheVariants.{Cut}
use Rattle.refusal.specs.declared.Bad.TheVariants.{NotUtf8}
use Rattle.text.specs.declared.Decoded.TheVariants.{Ill}
use Rattle.text.specs.Utf8.{decoded}
use Rattle.text.specs.Chars.{chars, size, encode, Scalars, nil, cons, WellFormed}
use Rattle.text.specs.Position.{starts_here}
use Rattle.text.specs.Verdicts.{utf8_verdict}
use Rattle.text.proofs.Texts.{scalars, front, length_encode, encode_chars, chars_encode_append, well_encode, size_chars, stepped}
use Rattle.text.proofs.Causes.{ill_for_good}
use Rattle.text.proofs.Positions.{boundary_parts, boundary_byte}
use Rattle.token.proofs.Cover.{size_append}
use Rattle.canon.proofs.Spelling.{encode_append}
use Rattle.refusal.specs.Verdict.{fine}

module _ (s t : List ℕ) (w : WellFormed s) where
  pub chars_append : chars (s ++ t) ≡ chars s ++ chars t
  chars_append = ap (λ (x : List ℕ). chars (x ++ t)) (sym (encode_chars s w)) ∙ chars_encode_append t (scalars s)

  pub size_more : size (chars (s ++ t)) ≡ length s + size (chars t)
  size_more = ap size chars_append ∙ size_append (chars s) (chars t) ∙ ap (λ (k : ℕ). k + size (chars t)) w

  pub well_append : WellFormed t → WellFormed (s ++ t)
  well_append v = omega (arith, size_more, v, length-append s t)

  pub ill_append : (WellFormed t → ⊥) → WellFormed (s ++ t) → ⊥
  ill_append n v = n (omega (arith, size_more, v, length-append s t))

  pub decoded_more : decoded (drop (size (chars (s ++ t))) (s ++ t)) ≡ decoded (drop (size (chars t)) t)
  decoded_more = rw (size_more, drop-append-add s t (size (chars t)))

-- a text is well-formed or not
pub well_or_not : (s : List ℕ) → (WellFormed s) ⊎ (WellFormed s → ⊥)
well_or_not s = ⊎_elim (λ e. inl (eqb-true (size (chars s)) (length s) e)) (λ e. inr (eqb-false (size (chars s)) (length s) e)) (yes_or_no (eqb (size (chars s)) (length s)))

-- THE VERDICT
pub verdict_well : (s : List ℕ) → WellFormed s → utf8_verdict s ≡ fine
unfolding utf8_verdict
verdict_well s w = rw (eq-eqb (size (chars s)) (length s) w)

pub verdict_ill : (s : List ℕ) {k : Cause} → (WellFormed s → ⊥) → decoded (drop (size (chars s)) s) ≡ Ill k → utf8_verdict s ≡ Err (NotUtf8 (size (chars s)) k)
unfolding utf8_verdict
verdict_ill s n e = rw (ne_eqb (size (chars s)) (length s) n, e)

-- the bytes before the first ill-formed sequence
pub front_well : (s : List ℕ) → WellFormed (take (size (chars s)) s)
front_well s =
    let e : take (size (chars s)) s ≡ encode (chars s) = ap (take (size (chars s))) (sym (front s)) ∙ take_at (encode (chars s)) (drop (size (chars s)) s) (size (chars s)) (length_encode (chars s)) in
    subst WellFormed (sym e) (well_encode (scalars s))

-- AN ILL-FORMED SEQUENCE THAT IS NOT CUT OFF stays, whatever comes
module _ (s t : List ℕ) {k : Cause} (e : decoded (drop (size (chars s)) s) ≡ Ill k) (n : k ≡ Cut → ⊥) where
  pub ill_chars : chars (s ++ t) ≡ chars s
  ill_chars =
      let r : List ℕ = drop (size (chars s)) s in
      let d : decoded (r ++ t) ≡ Ill k = rw (drop-append-le (size (chars s)) s t (size_chars s)) at (ill_for_good s (size (chars s)) e n t) in
      let z : chars (r ++ t) ≡ [] = stepped (r ++ t) d in
      ap (λ (x : List ℕ). chars (x ++ t)) (sym (front s)) ∙ ap chars (append_assoc (encode (chars s)) r t) ∙ chars_encode_append (r ++ t) (scalars s) ∙ ap (λ (x : List ℕ). chars s ++ x) z ∙ no_more (chars s)
    where
      no_more : (x : List ℕ) → x ++ [] ≡ x
      no_more [] = refl
      no_more (a ∷ x) = ap (λ (l : List ℕ). a ∷ l) (no_more x)

  pub ill_decoded : decoded (drop (size (chars (s ++ t))) (s ++ t)) ≡ Ill k
  ill_decoded = rw ill_chars (ill_for_good s (size (chars s)) e n t)

  pub ill_still : (WellFormed s → ⊥) → WellFormed (s ++ t) → ⊥
  ill_still m w = m (omega (arith, ap size ill_chars, w, length-append s t, size_chars s))

-- THE BYTES BEFORE A CHARACTER, or before the end, of a well-formed text
scalars_front : (u a : List ℕ) → Scalars (u ++ a) → Scalars u
scalars_front [] a h = nil
scalars_front (c ∷ u) a (cons p h) = cons p (scalars_front u a h)

pub take_well : (s : List ℕ) (n : ℕ) → WellFormed s → starts_here s n ≡ true → WellFormed (take n s)
take_well s n w h =
    let p = boundary_parts s n (boundary_byte s w n ∙ h) in
    let e : s ≡ encode p.before ++ encode (chars (drop n s)) = sym (encode_chars s w) ∙ ap encode (sym p.joined) ∙ encode_append p.before (chars (drop n s)) in
    let f : take n s ≡ encode p.before = ap (take n) e ∙ take_at (encode p.before) (encode (chars (drop n s))) n (length_encode p.before ∙ p.bytes) in
    subst WellFormed (sym f) (well_encode (scalars_front p.before (chars (drop n s)) (subst Scalars (sym p.joined) (scalars s))))
