-- The byte at the front of a text, if it lies from low to high; else why not.
use Rattle.std.specs.Prelude.{ℕ, ◌≤◌, ◌<◌, List, [], ◌∷◌, Result, Ok, Err}
use Rattle.basics.specs.Choice.{pick}
use Rattle.basics.specs.Tests.{within}
use Rattle.refusal.specs.declared.Cause.{Cause}
use Rattle.refusal.specs.declared.Cause.TheVariants.{Cut, Follow}

unfoldable pub next : (low high : ℕ) → List ℕ → Result ℕ Cause
next low high [] = Err Cut
next low high (b ∷ s) = pick (within low high b) (Ok b) (Err Follow)

-- What the code's sums and differences need: a first byte of at least base, a second byte's range among the tails, a tail.
pub record Lead (base a : ℕ) : Type 0 where
  pub least : base ≤ a
  pub most : a < 256

pub record Second (low high : ℕ) : Type 0 where
  pub least : 0x80 ≤ low
  pub most : high ≤ 0xBF

pub record Tail (b : ℕ) : Type 0 where
  pub least : 0x80 ≤ b
  pub most : b ≤ 0xBF
