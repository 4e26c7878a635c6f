-- What stands at the front of a text, case by case: the end, an ill-formed sequence, or a character of one to four bytes.
use Prim.Native.Nat.{ℕ, ◌≤◌, ◌<◌}
use mathlib.Core.List.{List, [], ◌∷◌}
use mathlib.Core.Logic.{inl, inr}
use native.Mathlib.Omega.{arith}
use Rattle.basics.specs.Tests.{within}
use Rattle.basics.proofs.Choices.{Within, within_true, by_pick}
use Rattle.refusal.specs.declared.Cause.{Cause}
use Rattle.refusal.specs.declared.Cause.TheVariants.{Cut, Follow}
use Rattle.text.specs.declared.Decoded.{Decoded}
use Rattle.text.specs.declared.Decoded.TheVariants.{Char, End, Ill}
use Rattle.text.specs.Utf8 as utf8
use Rattle.text.specs.Utf8.{byte, value2, value3, value4, lead, decoded}
use Rattle.text.specs.Next.{Tail}
use Rattle.text.specs.Chars.{Scalar}

pub data View : List ℕ → Decoded → Type 0 where
  end : View [] End
  ill : {a : ℕ} {s : List ℕ} {k : Cause} → View (a ∷ s) (Ill k)
  one : {a : ℕ} {s : List ℕ} → a ≤ 0x7F → View (a ∷ s) (Char a 1)
  two : {a b : ℕ} {s : List ℕ} → 0xC2 ≤ a → a ≤ 0xDF → Tail b → View (a ∷ b ∷ s) (Char (value2 a b) 2)
  three : {a b c : ℕ} {s : List ℕ} → 0xE0 ≤ a → a ≤ 0xEF → Tail b → Tail c → 0x800 ≤ value3 a b c → Scalar (value3 a b c)
      → View (a ∷ b ∷ c ∷ s) (Char (value3 a b c) 3)
  four : {a b c d : ℕ} {s : List ℕ} → 0xF0 ≤ a → a ≤ 0xF4 → Tail b → Tail c → Tail d → 0x10000 ≤ value4 a b c d → value4 a b c d < 0x110000
      → View (a ∷ b ∷ c ∷ d ∷ s) (Char (value4 a b c d) 4)

-- a byte that has to come next comes, or the sequence is ill-formed
by_byte : (P : List ℕ → Decoded → Type 0) (low high : ℕ) (s : List ℕ) (f : ℕ → List ℕ → Decoded)
    → ((t : List ℕ) (k : Cause) → P t (Ill k)) → ((b : ℕ) (t : List ℕ) → Within low high b → P (b ∷ t) (f b t)) → P s (byte low high s f)
unfolding byte
by_byte P low high [] f i g = i [] Cut
by_byte P low high (b ∷ s) f i g =
    by_pick (P (b ∷ s)) (within low high b) (f b s) (Ill Follow) (λ t. g b s (within_true low high b t)) (λ _. i (b ∷ s) Follow)

tail : {b : ℕ} → Within 0x80 0xBF b → Tail b
tail w = record { least = w.least; most = w.most }

-- the rows of one width: what their first two bytes say of the value
view_two : (a : ℕ) (s : List ℕ) → Within 0xC2 0xDF a → View (a ∷ s) (utf8.two a 0x80 0xBF s)
unfolding utf8.two
view_two a s w = by_byte (λ (t : List ℕ) (d : Decoded). View (a ∷ t) d) 0x80 0xBF s _ (λ _ _. ill) (λ b t wb. two w.least w.most (tail wb))

view_three : (a low high : ℕ) (s : List ℕ) → 0xE0 ≤ a → a ≤ 0xEF → 0x80 ≤ low → high ≤ 0xBF
    → ((b c : ℕ) → Within low high b → Tail c → (0x800 ≤ value3 a b c) × Scalar (value3 a b c)) → View (a ∷ s) (utf8.three a low high s)
unfolding utf8.three
view_three a low high s l h p q g =
    by_byte (λ (t : List ℕ) (d : Decoded). View (a ∷ t) d) low high s _ (λ _ _. ill)
    (λ b t wb. by_byte (λ (u : List ℕ) (d : Decoded). View (a ∷ b ∷ u) d) 0x80 0xBF t _ (λ _ _. ill)
    (λ c u wc. three l h (record { least = omega (arith, wb.least); most = omega (arith, wb.most) }) (tail wc) (g b c wb (tail wc)).0 (g b c wb (tail wc)).1))

view_four : (a low high : ℕ) (s : List ℕ) → 0xF0 ≤ a → a ≤ 0xF4 → 0x80 ≤ low → high ≤ 0xBF
    → ((b c d : ℕ) → Within low high b → Tail c → Tail d → (0x10000 ≤ value4 a b c d) × (value4 a b c d < 0x110000)) → View (a ∷ s) (utf8.four a low high s)
unfolding utf8.four
view_four a low high s l h p q g =
    by_byte (λ (t : List ℕ) (d : Decoded). View (a ∷ t) d) low high s _ (λ _ _. ill)
    (λ b t wb. by_byte (λ (u : List ℕ) (d : Decoded). View (a ∷ b ∷ u) d) 0x80 0xBF t _ (λ _ _. ill)
    (λ c u wc. by_byte (λ (v : List ℕ) (d : Decoded). View (a ∷ b ∷ c ∷ v) d) 0x80 0xBF u _ (λ _ _. ill)
    (λ d v wd. four l h (record { least = omega (arith, wb.least); most = omega (arith, wb.most) }) (tail wc) (tail wd) (g b c d wb (tail wc) (tail wd)).0 (g b c d wb (tail wc) (tail wd)).1)))

module _ (a : ℕ) (s : List ℕ) where
  by_row : (low high : ℕ) (x y : Decoded) → (Within low high a → View (a ∷ s) x) → View (a ∷ s) y → View (a ∷ s) (Rattle.basics.specs.Choice.pick (within low high a) x y)
  by_row low high x y f g = by_pick (View (a ∷ s)) (within low high a) x y (λ t. f (within_true low high a t)) (λ _. g)

  view_lead : View (a ∷ s) (lead a s)
  unfolding lead
  view_lead =
      by_row 0x00 0x7F _ _ (λ w. one w.most)
      (by_row 0xC2 0xDF _ _ (view_two a s)
      (by_row 0xE0 0xE0 _ _ (λ w. view_three a 0xA0 0xBF s (omega arith) (omega arith) (omega arith) (omega arith) (λ b c wb wc. (omega arith, inl (omega arith))))
      (by_row 0xE1 0xEC _ _ (λ w. view_three a 0x80 0xBF s (omega arith) (omega arith) (omega arith) (omega arith) (λ b c wb wc. (omega arith, inl (omega arith))))
      (by_row 0xED 0xED _ _ (λ w. view_three a 0x80 0x9F s (omega arith) (omega arith) (omega arith) (omega arith) (λ b c wb wc. (omega arith, inl (omega arith))))
      (by_row 0xEE 0xEF _ _ (λ w. view_three a 0x80 0xBF s (omega arith) (omega arith) (omega arith) (omega arith) (λ b c wb wc. (omega arith, inr (omega arith, omega arith))))
      (by_row 0xF0 0xF0 _ _ (λ w. view_four a 0x90 0xBF s (omega arith) (omega arith) (omega arith) (omega arith) (λ b c d wb wc wd. (omega arith, omega arith)))
      (by_row 0xF1 0xF3 _ _ (λ w. view_four a 0x80 0xBF s (omega arith) (omega arith) (omega arith) (omega arith) (λ b c d wb wc wd. (omega arith, omega arith)))
      (by_row 0xF4 0xF4 _ _ (λ w. view_four a 0x80 0x8F s (omega arith) (omega arith) (omega arith) (omega arith) (λ b c d wb wc wd. (omega arith, omega arith)))
      ill))))))))

pub view : (s : List ℕ) → View s (decoded s)
unfolding decoded
view [] = end
view (a ∷ s) = view_lead a s
