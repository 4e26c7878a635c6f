-- A character that is cut off by the end (RFC 3629): at most three bytes of it are there, and none of them is ASCII.
use Prim.Native.Nat.{ℕ, zero, suc, ◌≤◌, ◌<◌}
use mathlib.Core.Path.{◌≡◌, sym, ◌∙◌}
use mathlib.Core.Bool.{Bool, true, false}
use mathlib.Core.List.{List, [], ◌∷◌}
use mathlib.Core.Logic.{⊎_elim}
use lib.ListN.{length, get_or}
use native.Mathlib.Omega.{arith}
use Rattle.basics.specs.Choice.{pick}
use Rattle.basics.specs.Tests.{within}
use Rattle.basics.proofs.Choices.{yes_or_no, below_or_not, within_true}
use Rattle.refusal.specs.declared.Cause.TheVariants.{Start, Cut, Follow}
use Rattle.text.specs.declared.Decoded.{Decoded}
use Rattle.text.specs.declared.Decoded.TheVariants.{Char, Ill}
use Rattle.text.specs.Utf8.{byte, value2, value3, value4, two, three, four, lead, decoded}
use Rattle.text.proofs.Bytes.{byte_in, byte_out}
use Rattle.text.proofs.Rows.{row_00}

-- fewer than n bytes, none of them ASCII
pub record Cutting (n : ℕ) (s : List ℕ) : Type 0 where
  pub few : length s < n
  pub high : (i : ℕ) → i < length s → 0x80 ≤ get_or s i 0

-- what a row finds cut off
record Cuts (n : ℕ) (f : List ℕ → Decoded) : Type 0 where
  cuts : (s : List ℕ) → f s ≡ Ill Cut → Cutting n s

cuts_char : (n c w : ℕ) → Cuts n (λ (s : List ℕ). Char c w)
cuts_char n c w = record { cuts = λ s e. let z : ◌≡◌ {A = ℕ} 0 1 = cc in absurd (omega arith) }

cuts_start : (n : ℕ) → Cuts n (λ (s : List ℕ). Ill Start)
cuts_start n = record { cuts = λ s e. let z : ◌≡◌ {A = ℕ} 0 1 = cc in absurd (omega arith) }

no_follow : {A : Type 0} → Ill Follow ≡ Ill Cut → A
no_follow e = let z : ◌≡◌ {A = ℕ} 0 1 = cc in absurd (omega arith)

-- a byte more
one_more : {n : ℕ} (b : ℕ) (s : List ℕ) → 0x80 ≤ b → Cutting n s → Cutting (suc n) (b ∷ s)
one_more {n} b s h c = record { few = omega (arith, c.few); high = high }
  where
    high : (i : ℕ) → i < length (b ∷ s) → 0x80 ≤ get_or (b ∷ s) i 0
    high zero g = h
    high (suc i) g = c.high i (omega (arith, g))

no_bytes : (n : ℕ) → Cutting (suc n) []
no_bytes n = record { few = omega arith; high = λ i h. absurd (omega (arith, h)) }

cuts_byte : {n : ℕ} (low high : ℕ) (f : ℕ → List ℕ → Decoded) → 0x80 ≤ low → ((b : ℕ) → Cuts n (f b)) → Cuts (suc n) (λ (s : List ℕ). byte low high s f)
cuts_byte {n} low high f l c = record { cuts = cuts }
  where
    cuts : (s : List ℕ) → byte low high s f ≡ Ill Cut → Cutting (suc n) s
    cuts [] e = no_bytes n
    cuts (b ∷ s) e =
        ⊎_elim (λ w. one_more b s (omega (arith, l, (within_true low high b w).least)) ((c b).cuts s (sym (byte_in low high f b s w) ∙ e)))
        (λ w. no_follow (sym (byte_out low high f b s w) ∙ e)) (yes_or_no (within low high b))

weaker : {n m : ℕ} {f : List ℕ → Decoded} → n ≤ m → Cuts n f → Cuts m f
weaker h c = record { cuts = λ s e. record { few = omega (arith, h, (c.cuts s e).few); high = (c.cuts s e).high } }

cuts_pick : {n : ℕ} (t : Bool) {f g : List ℕ → Decoded} → Cuts n f → Cuts n g → Cuts n (λ (s : List ℕ). pick t (f s) (g s))
cuts_pick true x y = x
cuts_pick false x y = y

-- the rows of section 4
module _ (a : ℕ) where
  cuts_two : Cuts 3 (λ (s : List ℕ). two a 0x80 0xBF s)
  unfolding two
  cuts_two = weaker (omega arith) (cuts_byte 0x80 0xBF _ (omega arith) (λ b. cuts_char 0 (value2 a b) 2))

  cuts_three : (low high : ℕ) → 0x80 ≤ low → Cuts 3 (λ (s : List ℕ). three a low high s)
  unfolding three
  cuts_three low high l = weaker (omega arith) (cuts_byte low high _ l (λ b. cuts_byte 0x80 0xBF _ (omega arith) (λ c. cuts_char 0 (value3 a b c) 3)))

  cuts_four : (low high : ℕ) → 0x80 ≤ low → Cuts 3 (λ (s : List ℕ). four a low high s)
  unfolding four
  cuts_four low high l =
      cuts_byte low high _ l (λ b. cuts_byte 0x80 0xBF _ (omega arith) (λ c. cuts_byte 0x80 0xBF _ (omega arith) (λ d. cuts_char 0 (value4 a b c d) 4)))

  cuts_lead : Cuts 3 (λ (s : List ℕ). lead a s)
  unfolding lead
  cuts_lead =
      cuts_pick (within 0x00 0x7F a) (cuts_char 3 a 1)
      (cuts_pick (within 0xC2 0xDF a) cuts_two
      (cuts_pick (within 0xE0 0xE0 a) (cuts_three 0xA0 0xBF (omega arith))
      (cuts_pick (within 0xE1 0xEC a) (cuts_three 0x80 0xBF (omega arith))
      (cuts_pick (within 0xED 0xED a) (cuts_three 0x80 0x9F (omega arith))
      (cuts_pick (within 0xEE 0xEF a) (cuts_three 0x80 0xBF (omega arith))
      (cuts_pick (within 0xF0 0xF0 a) (cuts_four 0x90 0xBF (omega arith))
      (cuts_pick (within 0xF1 0xF3 a) (cuts_four 0x80 0xBF (omega arith))
      (cuts_pick (within 0xF4 0xF4 a) (cuts_four 0x80 0x8F (omega arith))
      (cuts_start 3)))))))))

  high_lead : (s : List ℕ) → lead a s ≡ Ill Cut → 0x80 ≤ a
  high_lead s e = ⊎_elim (λ h. let q : Char a 1 ≡ Ill Cut = sym (row_00 a s (omega arith) (omega arith)) ∙ e in let z : ◌≡◌ {A = ℕ} 0 1 = cc in absurd (omega arith)) (λ h. h) (below_or_not a 0x80)

-- A CHARACTER THAT IS CUT OFF
pub cut_bytes : (s : List ℕ) → decoded s ≡ Ill Cut → Cutting 4 s
unfolding decoded
cut_bytes [] e = no_bytes 3
cut_bytes (a ∷ s) e = one_more a s (high_lead a s e) ((cuts_lead a).cuts s e)

-- some of it is there
pub cut_some : (s : List ℕ) → decoded s ≡ Ill Cut → 1 ≤ length s
unfolding decoded
cut_some [] e = let z : ◌≡◌ {A = ℕ} 0 1 = cc in absurd (omega arith)
cut_some (a ∷ s) e = omega arith
