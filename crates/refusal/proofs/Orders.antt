-- Where checks let through in their order, each of them does.
use Rattle.std.specs.Prelude.{Ok, Err}
use mathlib.Core.Path.{◌≡◌, refl}
use Rattle.refusal.specs.Verdict.{Verdict, fine}
use Rattle.refusal.specs.Order.{first}

pub first_1 : (a b : Verdict) → first a b ≡ fine → a ≡ fine
first_1 (Ok tt) b e = refl
first_1 (Err x) b e = e

pub first_2 : (a b : Verdict) → first a b ≡ fine → b ≡ fine
first_2 (Ok tt) b e = e
first_2 (Err x) (Ok tt) e = refl
first_2 (Err x) (Err y) e = cc
