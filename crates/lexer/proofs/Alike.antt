-- LISTS THAT HOLD THE SAME POINTS, said of the one-token call: where both choices of lists are taken, it answers the same.
use Prim.Native.Nat.{ℕ}
use mathlib.Core.Path.{◌≡◌, refl}
use mathlib.Core.Bool.{Bool}
use mathlib.Core.List.{List}
use lib.ListN.{drop}
use Rattle.text.specs.Chars.{chars}
use Rattle.token.specs.Lists.{Lists}
use Rattle.token.specs.Alike.{Alike}
use Rattle.token.proofs.Alike.{same_token}
use Rattle.lexer.specs.Scans.{token_size, bare_at}
use Rattle.lexer.specs.Answers.{token_verdict, given_at, one_token}
use Rattle.lexer.specs.Taken.{Taken}

pub same_bare : (s : List ℕ) (L M : Lists) → Alike L M → (at : ℕ) (on : Bool) → bare_at L s at on ≡ bare_at M s at on
unfolding bare_at token_size
same_bare s L M a at on = rw (same_token L M a on (chars (drop at s))) refl

module _ (limit : ℕ) (s : List ℕ) (L M : Lists) (l : Taken limit L) (m : Taken limit M) where
  pub same_verdict : token_verdict limit s L ≡ token_verdict limit s M
  unfolding token_verdict
  same_verdict = rw (l, m) refl

  pub same_one : Alike L M → (at : ℕ) (on : Bool) → one_token limit s L at on ≡ one_token limit s M at on
  unfolding given_at
  same_one a at on = rw (same_verdict, same_bare s L M a at on) refl
