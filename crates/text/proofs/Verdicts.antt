-- What the checks of a text let through.
use Rattle.std.specs.Prelude.{Ok, Err}
use Prim.Native.Nat.{ℕ, ◌≤◌}
use mathlib.Core.Path.{◌≡◌, refl, sym, ap, ◌∙◌}
use mathlib.Core.Bool.{Bool, true, false, true≢false}
use mathlib.Core.List.{List}
use lib.ListN.{length, drop}
use lib.Dec.{eqb, ltb}
use borrow.Author.Tests.{ltb-false, eqb-true}
use native.Mathlib.Omega.{arith}
use Rattle.basics.specs.Choice.{pick}
use Rattle.refusal.specs.declared.Bad.TheVariants as bad
use Rattle.refusal.specs.declared.Cause.{Cause}
use Rattle.refusal.specs.Verdict.{Verdict, fine}
use Rattle.refusal.specs.Order.{first}
use Rattle.refusal.proofs.Orders.{first_1}
use Rattle.text.specs.Utf8.{decoded}
use Rattle.text.specs.Chars.{chars, size, WellFormed}
use Rattle.text.specs.Verdicts.{too_long, cause_of, utf8_verdict, text_verdict}

abbrev is_fine : Verdict → Bool
is_fine (Ok tt) = true
is_fine (Err x) = false

pub fine_long : (s : List ℕ) → too_long s ≡ fine → length s ≤ 4294967295
unfolding too_long
fine_long s e = go (ltb 4294967295 (length s)) refl e
  where
    go : (t : Bool) → ltb 4294967295 (length s) ≡ t → pick t (Err bad.TooLong) fine ≡ fine → length s ≤ 4294967295
    go true q r = absurd (true≢false (sym (ap is_fine r)))
    go false q r = ltb-false 4294967295 (length s) q

pub fine_utf8 : (s : List ℕ) → utf8_verdict s ≡ fine → WellFormed s
unfolding utf8_verdict
fine_utf8 s e = go (eqb (size (chars s)) (length s)) refl e
  where
    go : (t : Bool) → eqb (size (chars s)) (length s) ≡ t → pick t fine (Err (bad.NotUtf8 (size (chars s)) (cause_of (decoded (drop (size (chars s)) s))))) ≡ fine → WellFormed s
    go true q r = eqb-true _ _ q
    go false q r = absurd (true≢false (sym (ap is_fine r)))

-- a text that its check lets through is within the limit
pub fine_text : (s : List ℕ) {v : Verdict} → v ≡ text_verdict s → v ≡ fine → length s ≤ 4294967295
fine_text s e k = fine_long s (first_1 (too_long s) (first fine (utf8_verdict s)) (sym e ∙ k))

-- where the call on a text alone says 2, the check of its bytes does, with the same place and cause
pub text_utf8 : (s : List ℕ) {place : ℕ} {k : Cause} → text_verdict s ≡ Err (bad.NotUtf8 place k) → utf8_verdict s ≡ Err (bad.NotUtf8 place k)
unfolding too_long
text_utf8 s {place} {k} e = go (ltb 4294967295 (length s)) e
  where
    go : (t : Bool) → first (pick t (Err bad.TooLong) fine) (utf8_verdict s) ≡ Err (bad.NotUtf8 place k) → utf8_verdict s ≡ Err (bad.NotUtf8 place k)
    go true q = let z : ◌≡◌ {A = ℕ} 0 1 = cc in absurd (omega arith)
    go false q = q
