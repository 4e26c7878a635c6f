-- The rows of RFC 3629 section 4, each by the range of its first byte.
use Prim.Native.Nat.{ℕ, ◌≤◌, ◌<◌}
use mathlib.Core.Path.{◌≡◌, ap, ◌∙◌}
use mathlib.Core.List.{List}
use mathlib.Core.Bool.{Bool}
use native.Mathlib.Omega.{arith}
use Rattle.basics.specs.Choice.{pick}
use Rattle.basics.specs.Tests.{within}
use Rattle.basics.proofs.Choices.{inside_within, under_within, over_within}
use Rattle.refusal.specs.declared.Cause.TheVariants.{Start}
use Rattle.text.specs.declared.Decoded.{Decoded}
use Rattle.text.specs.declared.Decoded.TheVariants.{Char, Ill}
use Rattle.text.specs.Utf8.{two, three, four, lead}

-- a row that the byte is above, and one that it is in
past : (low high a : ℕ) (x y : Decoded) → low ≤ high → high < a → pick (within low high a) x y ≡ y
past low high a x y l h = ap (λ (t : Bool). pick t x y) (over_within low high a l h)

before : (low high a : ℕ) (x y : Decoded) → a < low → pick (within low high a) x y ≡ y
before low high a x y h = ap (λ (t : Bool). pick t x y) (under_within low high a h)

found : (low high a : ℕ) (x y : Decoded) → low ≤ a → a ≤ high → pick (within low high a) x y ≡ x
found low high a x y l h = ap (λ (t : Bool). pick t x y) (inside_within low high a l h)

module _ (a : ℕ) (s : List ℕ) where
  pub row_00 : 0x00 ≤ a → a ≤ 0x7F → lead a s ≡ Char a 1
  unfolding lead
  row_00 l h = found 0x00 0x7F a _ _ l h

  pub row_C2 : 0xC2 ≤ a → a ≤ 0xDF → lead a s ≡ two a 0x80 0xBF s
  unfolding lead
  row_C2 l h = past 0x00 0x7F a _ _ (omega arith) (omega arith) ∙ found 0xC2 0xDF a _ _ l h

  pub row_E0 : 0xE0 ≤ a → a ≤ 0xE0 → lead a s ≡ three a 0xA0 0xBF s
  unfolding lead
  row_E0 l h = past 0x00 0x7F a _ _ (omega arith) (omega arith) ∙ past 0xC2 0xDF a _ _ (omega arith) (omega arith) ∙ found 0xE0 0xE0 a _ _ l h

  pub row_E1 : 0xE1 ≤ a → a ≤ 0xEC → lead a s ≡ three a 0x80 0xBF s
  unfolding lead
  row_E1 l h = past 0x00 0x7F a _ _ (omega arith) (omega arith) ∙ past 0xC2 0xDF a _ _ (omega arith) (omega arith) ∙ past 0xE0 0xE0 a _ _ (omega arith) (omega arith) ∙ found 0xE1 0xEC a _ _ l h

  pub row_ED : 0xED ≤ a → a ≤ 0xED → lead a s ≡ three a 0x80 0x9F s
  unfolding lead
  row_ED l h = past 0x00 0x7F a _ _ (omega arith) (omega arith) ∙ past 0xC2 0xDF a _ _ (omega arith) (omega arith) ∙ past 0xE0 0xE0 a _ _ (omega arith) (omega arith) ∙ past 0xE1 0xEC a _ _ (omega arith) (omega arith) ∙ found 0xED 0xED a _ _ l h

  pub row_EE : 0xEE ≤ a → a ≤ 0xEF → lead a s ≡ three a 0x80 0xBF s
  unfolding lead
  row_EE l h = past 0x00 0x7F a _ _ (omega arith) (omega arith) ∙ past 0xC2 0xDF a _ _ (omega arith) (omega arith) ∙ past 0xE0 0xE0 a _ _ (omega arith) (omega arith) ∙ past 0xE1 0xEC a _ _ (omega arith) (omega arith) ∙ past 0xED 0xED a _ _ (omega arith) (omega arith) ∙ found 0xEE 0xEF a _ _ l h

  pub row_F0 : 0xF0 ≤ a → a ≤ 0xF0 → lead a s ≡ four a 0x90 0xBF s
  unfolding lead
  row_F0 l h = past 0x00 0x7F a _ _ (omega arith) (omega arith) ∙ past 0xC2 0xDF a _ _ (omega arith) (omega arith) ∙ past 0xE0 0xE0 a _ _ (omega arith) (omega arith) ∙ past 0xE1 0xEC a _ _ (omega arith) (omega arith) ∙ past 0xED 0xED a _ _ (omega arith) (omega arith) ∙ past 0xEE 0xEF a _ _ (omega arith) (omega arith) ∙ found 0xF0 0xF0 a _ _ l h

  pub row_F1 : 0xF1 ≤ a → a ≤ 0xF3 → lead a s ≡ four a 0x80 0xBF s
  unfolding lead
  row_F1 l h = past 0x00 0x7F a _ _ (omega arith) (omega arith) ∙ past 0xC2 0xDF a _ _ (omega arith) (omega arith) ∙ past 0xE0 0xE0 a _ _ (omega arith) (omega arith) ∙ past 0xE1 0xEC a _ _ (omega arith) (omega arith) ∙ past 0xED 0xED a _ _ (omega arith) (omega arith) ∙ past 0xEE 0xEF a _ _ (omega arith) (omega arith) ∙ past 0xF0 0xF0 a _ _ (omega arith) (omega arith) ∙ found 0xF1 0xF3 a _ _ l h

  pub row_F4 : 0xF4 ≤ a → a ≤ 0xF4 → lead a s ≡ four a 0x80 0x8F s
  unfolding lead
  row_F4 l h = past 0x00 0x7F a _ _ (omega arith) (omega arith) ∙ past 0xC2 0xDF a _ _ (omega arith) (omega arith) ∙ past 0xE0 0xE0 a _ _ (omega arith) (omega arith) ∙ past 0xE1 0xEC a _ _ (omega arith) (omega arith) ∙ past 0xED 0xED a _ _ (omega arith) (omega arith) ∙ past 0xEE 0xEF a _ _ (omega arith) (omega arith) ∙ past 0xF0 0xF0 a _ _ (omega arith) (omega arith) ∙ past 0xF1 0xF3 a _ _ (omega arith) (omega arith) ∙ found 0xF4 0xF4 a _ _ l h

  pub row_none_80 : 0x80 ≤ a → a ≤ 0xC1 → lead a s ≡ Ill Start
  unfolding lead
  row_none_80 l h = past 0x00 0x7F a _ _ (omega arith) (omega arith) ∙ before 0xC2 0xDF a _ _ (omega arith) ∙ before 0xE0 0xE0 a _ _ (omega arith) ∙ before 0xE1 0xEC a _ _ (omega arith) ∙ before 0xED 0xED a _ _ (omega arith) ∙ before 0xEE 0xEF a _ _ (omega arith) ∙ before 0xF0 0xF0 a _ _ (omega arith) ∙ before 0xF1 0xF3 a _ _ (omega arith) ∙ before 0xF4 0xF4 a _ _ (omega arith)

  pub row_none_F5 : 0xF5 ≤ a → lead a s ≡ Ill Start
  unfolding lead
  row_none_F5 l = past 0x00 0x7F a _ _ (omega arith) (omega arith) ∙ past 0xC2 0xDF a _ _ (omega arith) (omega arith) ∙ past 0xE0 0xE0 a _ _ (omega arith) (omega arith) ∙ past 0xE1 0xEC a _ _ (omega arith) (omega arith) ∙ past 0xED 0xED a _ _ (omega arith) (omega arith) ∙ past 0xEE 0xEF a _ _ (omega arith) (omega arith) ∙ past 0xF0 0xF0 a _ _ (omega arith) (omega arith) ∙ past 0xF1 0xF3 a _ _ (omega arith) (omega arith) ∙ past 0xF4 0xF4 a _ _ (omega arith) (omega arith)
