-- What the code finds at a position of a text.
use Rattle.std.specs.Prelude.{Err}
use Prim.Native.Nat.{ℕ, ◌+◌, ◌-◌, ◌≤◌, ◌<◌}
use mathlib.Core.Path.{◌≡◌, sym, ap, ◌∙◌}
use mathlib.Core.List.{List, [], ◌∷◌}
use borrow.Author.Tests.{eq-eqb, ne_eqb}
use lib.ListN.{length, get_or, drop, drop_of_length-le, length-drop}
use lib.Seq.{drop-cons, drop-drop}
use native.Mathlib.Omega.{arith}
use native.Mathlib.Numerals.{add-one}
use Rattle.refusal.specs.declared.Bad.TheVariants.{NotUtf8}
use Rattle.refusal.specs.declared.Cause.{Cause}
use Rattle.text.specs.declared.Decoded.{Decoded}
use Rattle.text.specs.declared.Decoded.TheVariants.{Char, End, Ill}
use Rattle.text.specs.Utf8.{lead, decoded}
use Rattle.text.specs.Chars.{chars, width, size}
use Rattle.text.specs.Verdicts.{cause_of, utf8_verdict}
use Rattle.text.proofs.Rows.{row_00}
use Rattle.text.proofs.Coding.{Fact}
use Rattle.text.proofs.Texts.{stepped, told}
use Rattle.refusal.specs.Verdict.{fine}

pub at_end : (s : List ℕ) (at : ℕ) → length s ≤ at → End ≡ decoded (drop at s)
unfolding decoded
at_end s at h = rw (drop_of_length-le s h)

pub at_byte : (s : List ℕ) (at : ℕ) {a : ℕ} {r : Decoded} → at < length s → a ≡ get_or s at 0 → r ≡ lead a (drop (at + 1) s) → r ≡ decoded (drop at s)
unfolding decoded
at_byte s at h e k = rw (drop-cons s at 0 h, ← e, ← add-one at) k

pub at_ascii : (s : List ℕ) (at : ℕ) {a : ℕ} → at < length s → a ≡ get_or s at 0 → a < 0x80 → Char a 1 ≡ decoded (drop at s)
at_ascii s at {a} h e l = at_byte s at h e (sym (row_00 a (drop (at + 1) s) (omega arith) (omega arith)))

-- a character at a position: it lies within the text, and the text's characters from there on are it and those past it
module _ (s : List ℕ) (at : ℕ) {d : Decoded} (e : d ≡ decoded (drop at s)) {c w : ℕ} (k : d ≡ Char c w) where
  this : Fact (drop at s) c w
  this = told (drop at s) (sym e ∙ k)

  pub char_room : at + w ≤ length s
  char_room = omega (arith, this.room, this.some, length-drop at s)

  pub char_less : length s - (at + w) < length s - at
  char_less = omega (arith, this.room, this.some, length-drop at s)

  pub char_size : width c ≡ w
  char_size = this.wide

  pub char_chars : chars (drop at s) ≡ c ∷ chars (drop (at + w) s)
  char_chars = stepped (drop at s) (sym e ∙ k) ∙ ap (λ (t : List ℕ). c ∷ chars t) (drop-drop w at s)

-- no character stands there
module _ (s : List ℕ) (at : ℕ) {d : Decoded} (e : d ≡ decoded (drop at s)) where
  pub end_chars : d ≡ End → chars (drop at s) ≡ []
  end_chars k = stepped (drop at s) (sym e ∙ k)

  pub ill_chars : {x : Cause} → d ≡ Ill x → chars (drop at s) ≡ []
  ill_chars k = stepped (drop at s) (sym e ∙ k)

-- THE CHECK OF A TEXT: characters take the bytes before `at`, and the rest of the text's characters stand from there on
pub record Reached (s : List ℕ) (at : ℕ) : Type 0 where
  pub room : at ≤ length s
  pub same : at + size (chars (drop at s)) ≡ size (chars s)

pub reached_none : (s : List ℕ) → Reached s 0
reached_none s = record { room = omega arith; same = omega arith }

module _ (s : List ℕ) {at : ℕ} {d : Decoded} (g : Reached s at) (e : d ≡ decoded (drop at s)) where
  pub reached_more : {c w : ℕ} → d ≡ Char c w → Reached s (at + w)
  reached_more {c} {w} k =
      let m : size (chars (drop at s)) ≡ w + size (chars (drop (at + w) s)) = rw (char_chars s at e k, char_size s at e k) in
      record { room = char_room s at e k; same = omega (arith, g.same) }

  pub reached_end : d ≡ End → fine ≡ utf8_verdict s
  unfolding utf8_verdict
  reached_end k =
      let f : size (chars (drop at s)) ≡ 0 = ap size (end_chars s at e k) in
      let l : length (drop at s) ≡ 0 = ap length (told (drop at s) (sym e ∙ k)) in
      let v : size (chars s) ≡ length s = omega (arith, g.same, g.room, length-drop at s) in
      sym (rw (eq-eqb (size (chars s)) (length s) v))

  pub reached_ill : {x : Cause} → d ≡ Ill x → Err (NotUtf8 at x) ≡ utf8_verdict s
  unfolding utf8_verdict
  reached_ill {x} k =
      let n : 0 < length (drop at s) = told (drop at s) (sym e ∙ k) in
      let f : size (chars (drop at s)) ≡ 0 = ap size (ill_chars s at e k) in
      let v : size (chars s) ≡ at = omega (arith, g.same) in
      let w : cause_of (decoded (drop at s)) ≡ x = ap cause_of (sym e ∙ k) in
      sym (rw (ne_eqb (size (chars s)) (length s) (λ q. omega (arith, g.room, length-drop at s)), v, w))
