-- The laws of one step of a cursor. These alone look into `rest` and `step_at`.
use Prim.Native.Nat.{ℕ, ◌+◌, ◌≤◌, ◌<◌}
use mathlib.Core.Path.{◌≡◌, refl, sym, ap, ◌∙◌}
use mathlib.Core.List.{List, ◌∷◌}
use lib.ListN.{length, get_or, drop, length-drop}
use native.Mathlib.Omega.{arith}
use Rattle.refusal.specs.declared.Cause.{Cause}
use Rattle.text.specs.declared.Decoded.{Decoded}
use Rattle.text.specs.declared.Decoded.TheVariants.{Char, End, Ill}
use Rattle.text.specs.Utf8.{decoded}
use Rattle.text.specs.Chars.{chars}
use Rattle.text.proofs.Coding.{Fact}
use Rattle.text.proofs.Texts.{told, size_chars, few_chars}
use Rattle.text.proofs.Places.{at_ascii, char_chars, end_chars, ill_chars}
use Rattle.cursor.specs.declared.Cursor.{Cursor}
use Rattle.std.specs.Prelude.{None, Some}
use Rattle.cursor.specs.Cursors.{rest, rest_is, onto, step_at, Seen, char, end}

module _ (s : List ℕ) (c : Cursor) {d : Decoded} (e : d ≡ decoded (drop c.at s)) where
  pub seen_char : {x w : ℕ} → d ≡ Char x w → Seen s c (Some (x, record { at = c.at + w }))
  unfolding step_at
  seen_char {x} {w} k =
      let f : Fact (drop c.at s) x w = told (drop c.at s) (sym e ∙ k) in
      char (record {
        chars = rest_is s c ∙ char_chars s c.at e k ∙ ap (λ (l : List ℕ). x ∷ l) (sym (rest_is s (record { at = c.at + w })));
        next = ap (onto c.at) (sym e ∙ k);
        scalar = f.scalar;
        bytes = ap (λ (n : ℕ). c.at + n) (sym f.wide);
      })

  pub seen_end : d ≡ End → Seen s c None
  seen_end k = end (rest_is s c ∙ end_chars s c.at e k)

  pub seen_ill : {x : Cause} → d ≡ Ill x → Seen s c None
  seen_ill k = end (rest_is s c ∙ ill_chars s c.at e k)

-- from a place on
pub rest_at : (s : List ℕ) (c : Cursor) {at : ℕ} → c.at ≡ at → rest s c ≡ chars (drop at s)
rest_at s c e = rest_is s c ∙ ap (λ (n : ℕ). chars (drop n s)) e

-- a text has no more characters than bytes
pub rest_short : (s : List ℕ) (c : Cursor) → length (rest s c) ≤ length s
rest_short s c = rw (rest_is s c) (omega (arith, few_chars (chars (drop c.at s)), size_chars (drop c.at s), length-drop c.at s))

-- a byte of ASCII at a cursor
pub seen_ascii : (s : List ℕ) (c : Cursor) {b x : ℕ} → c.at < length s → b ≡ get_or s c.at 0 → b < 0x80 → x ≡ b → Seen s c (Some (x, record { at = c.at + 1 }))
seen_ascii s c h e l q = seen_char s c (at_ascii s c.at h (q ∙ e) (omega arith)) refl
