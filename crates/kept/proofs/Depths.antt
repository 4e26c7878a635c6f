-- The largest number of a mode, mode by mode.
use Prim.Native.Nat.{ℕ, ◌≤◌, ◌<◌, max}
use mathlib.Core.Path.{◌≡◌, sym, ap, ◌∙◌}
use mathlib.Core.List.{[]}
use native.Mathlib.Omega.{arith}
use Rattle.machine.specs.declared.Mode.{Mode}
use Rattle.machine.specs.declared.Mode.TheVariants as mode
use Rattle.machine.specs.Pieces.{deepest}

-- a mode that is known
pub depth_of : {m k : Mode} → m ≡ k → deepest k ≡ deepest m
depth_of e = ap deepest (sym e)

-- in the end of a raw string it is the larger of two
pub larger : {m : Mode} {n j : ℕ} → m ≡ mode.RawEnd n j → n < j → j ≡ deepest m
larger {m} {n} {j} e h = let z : j ≡ max n j = omega (arith, h) in z ∙ ap deepest (sym e)

pub not_larger : {m : Mode} {n j : ℕ} → m ≡ mode.RawEnd n j → j ≤ n → n ≡ deepest m
not_larger {m} {n} {j} e h = let z : n ≡ max n j = omega (arith, h) in z ∙ ap deepest (sym e)
