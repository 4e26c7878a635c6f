-- Document 01: a number that is not a Unicode scalar value is in no class.
use Prim.Native.Nat.{ℕ, ◌≤◌, ◌<◌}
use mathlib.Core.Path.{◌≡◌, sym}
use mathlib.Core.List.{List}
use mathlib.Core.Bool.{false}
use mathlib.Core.Logic.{⊎_elim}
use borrow.Author.Tests.{le-ltb}
use native.Mathlib.Omega.{arith}
use Rattle.basics.proofs.Choices.{yes_or_no}
use Rattle.ranges.specs.Rules.{Good}
use Rattle.ranges.specs.Search.{in_pairs}
use Rattle.ranges.proofs.Laws.{Held, held}
use Rattle.classes.specs.Whitespace.{is_whitespace, is_horizontal_whitespace}
use Rattle.classes.specs.Identifiers.{id_start, id_continue}
use Rattle.classes.specs.Emoji.{emoji_char}
use Rattle.classes.proofs.Points.{no_white, no_horizontal, start_listed, continue_listed}

-- a surrogate, or past the last code point
pub data NoScalar (c : ℕ) : Type 0 where
  surrogate : 0xD800 ≤ c → c ≤ 0xDFFF → NoScalar c
  past : 0x10FFFF < c → NoScalar c

large : {c : ℕ} → NoScalar c → 0xD800 ≤ c
large (surrogate l h) = l
large (past h) = omega arith

not_held : {c : ℕ} → NoScalar c → Held c → ⊥
not_held (surrogate l h) k = ⊎_elim (λ a. omega arith) (λ a. omega arith) k.scalar
not_held (past h) k = omega (arith, k.most)

not_listed : {c : ℕ} (l : List ℕ) → Good l → NoScalar c → false ≡ in_pairs c l
not_listed {c} l g n = ⊎_elim (λ t. absurd (not_held n (held g t))) (λ f. sym f) (yes_or_no (in_pairs c l))

module _ {c : ℕ} (n : NoScalar c) where
  far : 0xD800 ≤ c
  far = large n

  pub no_scalar_whitespace : is_whitespace c ≡ false
  no_scalar_whitespace =
      let h = far in
      sym (no_white c (λ e. omega arith) (λ e. omega arith) (λ e. omega arith) (λ e. omega arith) (λ e. omega arith) (λ e. omega arith) (λ e. omega arith) (λ e. omega arith) (λ e. omega arith) (λ e. omega arith) (λ e. omega arith))

  pub no_scalar_horizontal : is_horizontal_whitespace c ≡ false
  no_scalar_horizontal = let h = far in sym (no_horizontal c (⊎_elim (λ e. omega arith) (λ e. omega arith)))

  pub no_scalar_start : (l : List ℕ) → Good l → id_start l c ≡ false
  no_scalar_start l g = let h = far in sym (start_listed l c (omega arith) (not_listed l g n))

  pub no_scalar_continue : (l : List ℕ) → Good l → id_continue l c ≡ false
  no_scalar_continue l g = let h = far in sym (continue_listed l c (omega arith) (not_listed l g n))

  pub no_scalar_emoji : (l : List ℕ) → Good l → emoji_char l c ≡ false
  unfolding emoji_char
  no_scalar_emoji l g = let h = far in rw (le-ltb c 0x80 (omega arith)) (sym (not_listed l g n))
