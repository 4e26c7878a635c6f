-- One byte of a sequence: what the code's test of it says of the rows of RFC 3629.
use Rattle.std.specs.Prelude.{Result, Ok, Err}
use Prim.Native.Nat.{ℕ, ◌+◌, ◌≤◌, ◌<◌}
use mathlib.Core.Path.{◌≡◌, refl, sym, ◌∙◌}
use mathlib.Core.List.{List, [], ◌∷◌}
use mathlib.Core.Bool.{Bool, true, false}
use lib.ListN.{length, get_or, drop, drop_of_length-le}
use lib.Seq.{drop-cons, drop-drop}
use native.Mathlib.Omega.{arith}
use Rattle.basics.specs.Choice.{pick}
use Rattle.basics.specs.Tests.{within}
use Rattle.basics.proofs.Choices.{Within, within_true, inside_within, under_within, by_pick}
use Rattle.refusal.specs.declared.Cause.{Cause}
use Rattle.refusal.specs.declared.Cause.TheVariants.{Cut, Follow}
use Rattle.text.specs.declared.Decoded.{Decoded}
use Rattle.text.specs.declared.Decoded.TheVariants.{Char, Ill}
use Rattle.text.specs.Next.{next, Second, Tail}
use Rattle.text.specs.Utf8.{byte, value2, value3, value4, two, three, four}

-- a byte that has to come next: there is none, it lies in the range, or it does not
module _ (low high : ℕ) (f : ℕ → List ℕ → Decoded) where
  pub byte_none : byte low high [] f ≡ Ill Cut
  unfolding byte
  byte_none = refl

  pub byte_in : (b : ℕ) (s : List ℕ) → within low high b ≡ true → byte low high (b ∷ s) f ≡ f b s
  unfolding byte
  byte_in b s w = rw w

  pub byte_out : (b : ℕ) (s : List ℕ) → within low high b ≡ false → byte low high (b ∷ s) f ≡ Ill Follow
  unfolding byte
  byte_out b s w = rw w

pub next_past : (low high : ℕ) (s : List ℕ) (at : ℕ) → length s ≤ at → Err Cut ≡ next low high (drop at s)
unfolding next
next_past low high s at h = rw (drop_of_length-le s h)

module _ (low high : ℕ) (s : List ℕ) (at b : ℕ) (h : at < length s) (e : b ≡ get_or s at 0) where
  pub next_under : b < low → Err Follow ≡ next low high (drop at s)
  unfolding next
  next_under l = sym (rw (drop-cons s at 0 h, ← e, under_within low high b l))

  pub next_over : low ≤ b → high < b → Err Follow ≡ next low high (drop at s)
  unfolding next
  next_over l u = sym (rw (drop-cons s at 0 h, ← e) (by_pick (λ (n : (Result ℕ Cause)). n ≡ Err Follow) (within low high b) (Ok b) (Err Follow) (λ t. absurd (omega (arith, (within_true low high b t).most))) (λ _. refl)))

  pub next_is : low ≤ b → b ≤ high → Ok b ≡ next low high (drop at s)
  unfolding next
  next_is l u = sym (rw (drop-cons s at 0 h, ← e, inside_within low high b l u))

-- a byte that is there lies in the range
in_range : (low high b : ℕ) (s : List ℕ) → Ok b ≡ next low high s → Within low high b
unfolding next
in_range low high b [] e = let z : ◌≡◌ {A = ℕ} 0 1 = cc in absurd (omega arith)
in_range low high b (a ∷ s) e = go (within low high a) refl e
  where
    go : (t : Bool) → within low high a ≡ t → Ok b ≡ pick t (Ok a) (Err Follow) → Within low high b
    go true w e = let i : b ≡ a = cc in rw i (within_true low high a w)
    go false w e = let z : ◌≡◌ {A = ℕ} 0 1 = cc in absurd (omega arith)

pub second_tail : (low high : ℕ) (s : List ℕ) (at : ℕ) {b : ℕ} {n : (Result ℕ Cause)} → Second low high → n ≡ next low high (drop at s) → n ≡ Ok b → Tail b
second_tail low high s at {b} g e f =
    let w = in_range low high b (drop at s) (sym f ∙ e) in
    record { least = omega arith; most = omega arith }

pub next_tail : (s : List ℕ) (at : ℕ) {b : ℕ} {n : (Result ℕ Cause)} → n ≡ next 0x80 0xBF (drop at s) → n ≡ Ok b → Tail b
next_tail s at e f = second_tail 0x80 0xBF s at (record { least = omega arith; most = omega arith }) e f

-- where the byte is there, what follows decides, from the next position on; else the sequence is ill-formed for the same cause
abbrev byte_of : Result ℕ Cause → List ℕ → (ℕ → List ℕ → Decoded) → Decoded
byte_of (Ok b) s f = f b s
byte_of (Err k) s f = Ill k

byte_of_lem : (low high : ℕ) (s : List ℕ) (f : ℕ → List ℕ → Decoded) → byte low high s f ≡ byte_of (next low high s) (drop 1 s) f
unfolding byte next
byte_of_lem low high [] f = refl
byte_of_lem low high (b ∷ s) f = go (within low high b)
  where
    go : (t : Bool) → pick t (f b s) (Ill Follow) ≡ byte_of (pick t (Ok b) (Err Follow)) s f
    go true = refl
    go false = refl

module _ (low high : ℕ) (s : List ℕ) (at : ℕ) {n : (Result ℕ Cause)} (e : n ≡ next low high (drop at s)) (f : ℕ → List ℕ → Decoded) where
  byte_is : {b : ℕ} → n ≡ Ok b → byte low high (drop at s) f ≡ f b (drop (at + 1) s)
  byte_is k = byte_of_lem low high (drop at s) f ∙ rw (← e, k, drop-drop 1 at s)

  byte_other : {x : Cause} → n ≡ Err x → byte low high (drop at s) f ≡ Ill x
  byte_other k = byte_of_lem low high (drop at s) f ∙ rw (← e, k)

-- the rest of a sequence, byte by byte: the second byte, the third, the fourth
module _ (a low high : ℕ) (s : List ℕ) (at : ℕ) {n₂ : (Result ℕ Cause)} (e₂ : n₂ ≡ next low high (drop at s)) where
  pub two_ill : {x : Cause} → n₂ ≡ Err x → Ill x ≡ two a low high (drop at s)
  unfolding two
  two_ill k = sym (byte_other low high s at e₂ _ k)

  pub three_ill_2 : {x : Cause} → n₂ ≡ Err x → Ill x ≡ three a low high (drop at s)
  unfolding three
  three_ill_2 k = sym (byte_other low high s at e₂ _ k)

  pub four_ill_2 : {x : Cause} → n₂ ≡ Err x → Ill x ≡ four a low high (drop at s)
  unfolding four
  four_ill_2 k = sym (byte_other low high s at e₂ _ k)

  module _ {b : ℕ} (k₂ : n₂ ≡ Ok b) where
    pub two_is : {v : ℕ} → v ≡ value2 a b → Char v 2 ≡ two a low high (drop at s)
    unfolding two
    two_is e = rw e (sym (byte_is low high s at e₂ _ k₂))

    module _ {n₃ : (Result ℕ Cause)} (e₃ : n₃ ≡ next 0x80 0xBF (drop (at + 1) s)) where
      pub three_ill_3 : {x : Cause} → n₃ ≡ Err x → Ill x ≡ three a low high (drop at s)
      unfolding three
      three_ill_3 k = sym (byte_is low high s at e₂ _ k₂ ∙ byte_other 0x80 0xBF s (at + 1) e₃ _ k)

      pub four_ill_3 : {x : Cause} → n₃ ≡ Err x → Ill x ≡ four a low high (drop at s)
      unfolding four
      four_ill_3 k = sym (byte_is low high s at e₂ _ k₂ ∙ byte_other 0x80 0xBF s (at + 1) e₃ _ k)

      module _ {c : ℕ} (k₃ : n₃ ≡ Ok c) where
        pub three_is : {v : ℕ} → v ≡ value3 a b c → Char v 3 ≡ three a low high (drop at s)
        unfolding three
        three_is e = rw e (sym (byte_is low high s at e₂ _ k₂ ∙ byte_is 0x80 0xBF s (at + 1) e₃ _ k₃))

        module _ {n₄ : (Result ℕ Cause)} (e₄ : n₄ ≡ next 0x80 0xBF (drop (at + 2) s)) where
          e₄' : n₄ ≡ next 0x80 0xBF (drop (at + 1 + 1) s)
          e₄' = let i : at + 1 + 1 ≡ at + 2 = omega arith in rw i e₄

          pub four_ill_4 : {x : Cause} → n₄ ≡ Err x → Ill x ≡ four a low high (drop at s)
          unfolding four
          four_ill_4 k = sym (byte_is low high s at e₂ _ k₂ ∙ byte_is 0x80 0xBF s (at + 1) e₃ _ k₃ ∙ byte_other 0x80 0xBF s (at + 1 + 1) e₄' _ k)

          pub four_is : {d v : ℕ} → n₄ ≡ Ok d → v ≡ value4 a b c d → Char v 4 ≡ four a low high (drop at s)
          unfolding four
          four_is k e = rw e (sym (byte_is low high s at e₂ _ k₂ ∙ byte_is 0x80 0xBF s (at + 1) e₃ _ k₃ ∙ byte_is 0x80 0xBF s (at + 1 + 1) e₄' _ k))
