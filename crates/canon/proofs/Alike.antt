-- LISTS THAT HOLD THE SAME POINTS GIVE THE SAME KEY: a text means the same with them, and has its first broken token at the same place.
use Prim.Native.Nat.{ℕ}
use mathlib.Core.Path.{◌≡◌, ap}
use mathlib.Core.Bool.{false}
use mathlib.Core.List.{List}
use Rattle.token.specs.Lists.{Lists}
use Rattle.token.specs.Alike.{Alike}
use Rattle.token.proofs.Alike.{same_records}
use Rattle.canon.specs.Keyable.{first_broken, broken_at}
use Rattle.canon.specs.Meaning.{items_of, meaning}
use Rattle.canon.specs.Key.{written, key_of}

module _ (L M : Lists) (a : Alike L M) (s : List ℕ) where
  pub same_broken : broken_at L s ≡ broken_at M s
  same_broken = ap first_broken (same_records L M a false s)

  pub same_meaning : meaning L s ≡ meaning M s
  same_meaning = ap (items_of s) (same_records L M a false s)

  pub same_key : key_of L s ≡ key_of M s
  same_key = ap written same_meaning
