-- Where CR CR LF stands, found from the left; and whether LF follows a CR, by the bytes.
use Rattle.std.specs.Prelude.{Option, None, Some, MatchOption}
use Rattle.std.specs.List.{starts_with}
use Prim.Native.Nat.{ℕ, zero, suc, ◌+◌, ◌≤◌, ◌<◌}
use mathlib.Core.Path.{◌≡◌, refl, sym, ap, ◌∙◌}
use mathlib.Core.List.{List, [], ◌∷◌}
use mathlib.Core.Bool.{Bool, true, false}
use lib.ListN.{length, drop, length-drop}
use lib.Dec.{eqb}
use borrow.Author.Tests.{ne_eqb}
use native.Mathlib.Omega.{arith}
use Rattle.basics.specs.Choice.{and}
use Rattle.text.specs.declared.Decoded.{Decoded}
use Rattle.text.specs.declared.Decoded.TheVariants.{Char, End, Ill}
use Rattle.refusal.specs.declared.Cause.{Cause}
use Rattle.text.specs.Utf8.{decoded}
use Rattle.text.specs.Chars.{chars}
use Rattle.text.proofs.Places.{char_chars, end_chars, ill_chars}
use Rattle.eaters.specs.Find.{nowhere, find}
use Rattle.eaters.proofs.Begins.{begins_with}
use Rattle.line_ends.specs.LineEnds.{cr_lf, double_at, double_return}
use Rattle.places.specs.Found.{found_at}
use Rattle.places.proofs.Searches.{NoneBefore, none_before, found_here, none_here, none_left}

-- AFTER A CR: the next character is LF or not
module _ (s : List ℕ) (next : ℕ) {c : ℕ} where
  pub lf_char : {r : Decoded} {d w : ℕ} → c ≡ 13 → r ≡ decoded (drop next s) → r ≡ Char d w → eqb d 10 ≡ cr_lf c (chars (drop next s))
  lf_char e q z = rw (e, char_chars s next q z)

  pub lf_end : {r : Decoded} → c ≡ 13 → r ≡ decoded (drop next s) → r ≡ End → false ≡ cr_lf c (chars (drop next s))
  lf_end e q z = rw (e, end_chars s next q z)

  pub lf_ill : {r : Decoded} {k : Cause} → c ≡ 13 → r ≡ decoded (drop next s) → r ≡ Ill k → false ≡ cr_lf c (chars (drop next s))
  lf_ill e q z = rw (e, ill_chars s next q z)

  pub lf_none : (c ≡ 13 → ⊥) → false ≡ cr_lf c (chars (drop next s))
  lf_none n = rw (ne_eqb c 13 n)

-- CR CR LF AT THE FRONT, by the library's word and by the book's
pub double_is : (s : List ℕ) {t : Bool} → t ≡ starts_with eqb s (13 ∷ 13 ∷ 10 ∷ []) → t ≡ double_at s
double_is s e = e ∙ begins_with (13 ∷ 13 ∷ 10 ∷ []) s

-- FROM THE LEFT
none_until : (s : List ℕ) (i : ℕ) → i ≤ length s → ((k : ℕ) → k < i → double_at (drop k s) ≡ false) → NoneBefore double_at s i
none_until s zero h n = none_before double_at s
none_until s (suc i) h n =
    let e : i + 1 ≡ suc i = omega arith in
    rw e at (none_here double_at s i (none_until s i (omega arith) (λ k l. n k (omega arith))) (omega arith) (n i (omega arith)))

-- the end has none
none_at_end : (s : List ℕ) → length s ≡ 0 → double_return s ≡ nowhere
unfolding find
none_at_end [] h = refl
none_at_end (c ∷ s) h = absurd (omega arith)

pub double_first : (s : List ℕ) (r : Option ℕ)
    → MatchOption r ((k : ℕ) → 0 ≤ k → k < length s → double_at (drop k s) ≡ false)
    (λ i. (0 ≤ i) × (i < length s) × (double_at (drop i s) ≡ true) × ((k : ℕ) → 0 ≤ k → k < i → double_at (drop k s) ≡ false))
    → r ≡ found_at (double_return s)
double_first s None n =
    sym
    (ap
    found_at
    (none_left
    double_at
    s
    (length s)
    (none_until s (length s) (omega arith) (λ k l. n k (omega arith) l))
    (none_at_end (drop (length s) s) (omega (arith, length-drop (length s) s)))))
double_first s (Some i) (z, h, e, n) = sym (ap found_at (found_here double_at s i (none_until s i (omega arith) (λ k l. n k (omega arith) l)) h e))
