-- Whether a character is a hidden mark.
use Prim.Native.Nat.{ℕ}
use mathlib.Core.Path.{◌≡◌, refl}
use mathlib.Core.Bool.{Bool, true, false}
use mathlib.Core.List.{[], ◌∷◌}
use native.Mathlib.Omega.{arith}
use Rattle.basics.specs.Choice.{or}
use Rattle.basics.specs.Tests.{within, all}
use Rattle.basics.proofs.Choices.{Within, within_true}
use Rattle.marks.specs.Marks.{hidden, no_marks}

-- THE NINE of document 02, W6, and their neighbours
pub nine_marks : all hidden (0x202A ∷ 0x202B ∷ 0x202C ∷ 0x202D ∷ 0x202E ∷ 0x2066 ∷ 0x2067 ∷ 0x2068 ∷ 0x2069 ∷ []) ≡ true
nine_marks = refl

pub neighbours : no_marks (0x2029 ∷ 0x202F ∷ 0x2065 ∷ 0x206A ∷ []) ≡ true
neighbours = refl

-- BY ITS RANGE
module _ (c : ℕ) where
  -- all of them lie together
  pub mark_range : hidden c ≡ true → Within 0x202A 0x2069 c
  mark_range = go (within 0x202A 0x202E c) (λ e. within_true 0x202A 0x202E c e) (λ e. within_true 0x2066 0x2069 c e)
    where
      go : (t : Bool) → (t ≡ true → Within 0x202A 0x202E c) → (within 0x2066 0x2069 c ≡ true → Within 0x2066 0x2069 c) → or t (within 0x2066 0x2069 c) ≡ true → Within 0x202A 0x2069 c
      go true f g e = record { least = (f e).least; most = omega (arith, (f e).most) }
      go false f g e = record { least = omega (arith, (g e).least); most = (g e).most }
