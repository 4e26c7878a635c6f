-- Where the first hidden mark stands, found from the left.
use Rattle.std.specs.Prelude.{None, Some}
use Prim.Native.Nat.{ℕ, ◌+◌, ◌≤◌, ◌<◌}
use mathlib.Core.Path.{◌≡◌, sym, ap, ◌∙◌}
use mathlib.Core.Bool.{Bool, true, false}
use mathlib.Core.List.{List}
use lib.ListN.{length, get_or, drop, length-drop}
use native.Mathlib.Omega.{arith}
use Rattle.refusal.specs.declared.Cause.{Cause}
use Rattle.text.specs.declared.Decoded.{Decoded}
use Rattle.text.specs.declared.Decoded.TheVariants.{Char, End, Ill}
use Rattle.text.specs.Ascii.{AsciiRun}
use Rattle.text.specs.Utf8.{decoded}
use Rattle.text.specs.Chars.{WellFormed}
use Rattle.text.proofs.Runs.{over_run}
use Rattle.places.specs.Found.{found_at}
use Rattle.places.proofs.Searches.{NoneBefore, found_here, none_here, none_left}
use Rattle.marks.specs.Marks.{hidden, hidden_mark}
use Rattle.marks.specs.Front.{is_mark, mark_at}
use Rattle.marks.proofs.Bytes.{other_at, mark_empty, mark_place}

-- AT A PLACE: another first byte; or E2, and the character there
module _ (s : List ℕ) (i : ℕ) where
  pub mark_other : (get_or s i 0 ≡ 0xE2 → ⊥) → false ≡ mark_at (drop i s)
  mark_other n = sym (other_at s i n)

  pub mark_char : {r : Decoded} {c w : ℕ} {t : Bool} → r ≡ decoded (drop i s) → r ≡ Char c w → t ≡ hidden c → t ≡ mark_at (drop i s)
  mark_char e k p = p ∙ sym (ap is_mark (sym e ∙ k))

  pub mark_end : {r : Decoded} → r ≡ decoded (drop i s) → r ≡ End → false ≡ mark_at (drop i s)
  mark_end e k = sym (ap is_mark (sym e ∙ k))

  pub mark_ill : {r : Decoded} {x : Cause} → r ≡ decoded (drop i s) → r ≡ Ill x → false ≡ mark_at (drop i s)
  mark_ill e k = sym (ap is_mark (sym e ∙ k))

-- FROM THE LEFT
pub mark_found : (s : List ℕ) (i : ℕ) {t : Bool} → WellFormed s → NoneBefore mark_at s i → i < length s → t ≡ mark_at (drop i s) → t ≡ true → Some i ≡ found_at (hidden_mark s)
mark_found s i v u h p q = ap found_at (sym (found_here mark_at s i u h (sym p ∙ q)) ∙ mark_place s v)

pub mark_on : (s : List ℕ) (i : ℕ) {t : Bool} → NoneBefore mark_at s i → i < length s → t ≡ mark_at (drop i s) → t ≡ false → NoneBefore mark_at s (i + 1)
mark_on s i u h p q = none_here mark_at s i u h (sym p ∙ q)

pub mark_run : (s : List ℕ) {i : ℕ} (n : ℕ) → NoneBefore mark_at s i → AsciiRun s i n → NoneBefore mark_at s (i + n)
mark_run s n u r = over_run s (NoneBefore mark_at s) (λ j h l u. none_here mark_at s j u h (other_at s j (λ e. omega (arith, l)))) n u r

pub mark_none : (s : List ℕ) (i : ℕ) → WellFormed s → NoneBefore mark_at s i → length s ≤ i → None ≡ found_at (hidden_mark s)
mark_none s i v u h = ap found_at (sym (none_left mark_at s i u (mark_empty (drop i s) (omega (arith, length-drop i s)))) ∙ mark_place s v)
