-- What an answer means goes into a choice of answers.
use Prim.Native.Nat.{ℕ}
use mathlib.Core.Path.{◌≡◌, refl}
use mathlib.Core.Bool.{Bool, true, false}
use Rattle.basics.specs.Choice.{pick}
use Rattle.token.specs.Lists.{Lists}
use Rattle.goes.specs.declared.Goes.{Goes}
use Rattle.goes.specs.Went.{went}

pub went_pick : (L : Lists) (st p c : ℕ) (t : Bool) (x y : Goes) → went L st p c (pick t x y) ≡ pick t (went L st p c x) (went L st p c y)
went_pick L st p c true x y = refl
went_pick L st p c false x y = refl
