-- Sums that do not compute by themselves.
use Prim.Native.Nat.{ℕ, ◌+◌}
use mathlib.Core.Path.{◌≡◌}
use native.Mathlib.Omega.{arith}

pub zero_plus : (a : ℕ) → 0 + a ≡ a
zero_plus a = omega arith
