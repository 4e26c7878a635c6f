-- Single points and ranges: what the tests of the code say of the definitions.
use Prim.Native.Nat.{ℕ, ◌≤◌, ◌<◌}
use mathlib.Core.Path.{◌≡◌, sym, ap, ◌∙◌}
use mathlib.Core.List.{List}
use mathlib.Core.Bool.{Bool, false}
use mathlib.Core.Logic.{◌⊎◌, inl, inr}
use borrow.Author.Tests.{ne_eqb, lt-ltb, le-ltb}
use native.Mathlib.Omega.{arith}
use Rattle.basics.specs.Choice.{pick, or}
use Rattle.basics.specs.Tests.{within}
use Rattle.basics.proofs.Choices.{under_within}
use Rattle.ranges.specs.Search.{in_pairs}
use Rattle.classes.specs.Whitespace.{is_whitespace, is_horizontal_whitespace}
use Rattle.classes.specs.Identifiers.{letter, underscore, id_start, id_continue}

-- no point of whitespace
pub no_white : (c : ℕ) → (c ≡ 0x09 → ⊥) → (c ≡ 0x0A → ⊥) → (c ≡ 0x0B → ⊥) → (c ≡ 0x0C → ⊥) → (c ≡ 0x0D → ⊥) → (c ≡ 0x20 → ⊥)
    → (c ≡ 0x85 → ⊥) → (c ≡ 0x200E → ⊥) → (c ≡ 0x200F → ⊥) → (c ≡ 0x2028 → ⊥) → (c ≡ 0x2029 → ⊥) → false ≡ is_whitespace c
unfolding is_whitespace
no_white c n₀ n₁ n₂ n₃ n₄ n₅ n₆ n₇ n₈ n₉ n =
    sym (rw (ne_eqb c _ n₀, ne_eqb c _ n₁, ne_eqb c _ n₂, ne_eqb c _ n₃, ne_eqb c _ n₄, ne_eqb c _ n₅, ne_eqb c _ n₆, ne_eqb c _ n₇, ne_eqb c _ n₈, ne_eqb c _ n₉, ne_eqb c _ n))

pub no_horizontal : (c : ℕ) → ((c ≡ 0x09) ⊎ (c ≡ 0x20) → ⊥) → false ≡ is_horizontal_whitespace c
unfolding is_horizontal_whitespace
no_horizontal c n = sym (rw (ne_eqb c 0x09 (λ e. n (inl e)), ne_eqb c 0x20 (λ e. n (inr e))))

pub letter_under : (c : ℕ) → c < 0x41 → false ≡ letter c
unfolding letter
letter_under c h = sym (ap (λ (t : Bool). or t (within 0x61 0x7A c)) (under_within 0x41 0x5A c h) ∙ under_within 0x61 0x7A c (omega arith))

-- identifiers: the list from 0x80 on; below it letters, the underscore and digits
module _ (l : List ℕ) (c : ℕ) {r : Bool} where
  pub start_listed : 0x80 ≤ c → r ≡ in_pairs c l → r ≡ id_start l c
  unfolding id_start
  start_listed h e = rw (le-ltb c 0x80 h) e

  pub continue_listed : 0x80 ≤ c → r ≡ in_pairs c l → r ≡ id_continue l c
  unfolding id_continue
  continue_listed h e = rw (le-ltb c 0x80 h) e

module _ (l : List ℕ) (c : ℕ) {t : Bool} (h : c < 0x80) (e : t ≡ letter c) where
  pub start_other : t ≡ false → underscore c ≡ id_start l c
  unfolding id_start
  start_other k = sym (ap (λ (b : Bool). pick b (or (letter c) (underscore c)) (in_pairs c l)) (lt-ltb c 0x80 h) ∙ ap (λ (b : Bool). or b (underscore c)) (sym e ∙ k))
