-- The number of a cause loses nothing.
use mathlib.Core.Path.{◌≡◌, refl}
use native.Mathlib.Omega.{arith}
use Rattle.refusal.specs.declared.Cause.{Cause}
use Rattle.refusal.specs.declared.Cause.TheVariants.{Start, Cut, Follow}
use Rattle.refusal.specs.Numbers.{cause_number}

pub cause_of_number : (j k : Cause) → cause_number j ≡ cause_number k → j ≡ k
cause_of_number Start Start e = refl
cause_of_number Start Cut e = absurd (omega (arith, e))
cause_of_number Start Follow e = absurd (omega (arith, e))
cause_of_number Cut Start e = absurd (omega (arith, e))
cause_of_number Cut Cut e = refl
cause_of_number Cut Follow e = absurd (omega (arith, e))
cause_of_number Follow Start e = absurd (omega (arith, e))
cause_of_number Follow Cut e = absurd (omega (arith, e))
cause_of_number Follow Follow e = refl
