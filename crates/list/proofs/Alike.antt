-- LISTS THAT HOLD THE SAME POINTS, said of the list call: where both choices of lists are taken, it answers the same and leaves the same records.
use Prim.Native.Nat.{ℕ}
use mathlib.Core.Path.{◌≡◌, refl, ◌∙◌}
use mathlib.Core.Bool.{Bool}
use mathlib.Core.List.{List}
use lib.ListN.{length}
use Rattle.token.specs.declared.Token.{Token}
use Rattle.token.specs.Lists.{Lists}
use Rattle.token.specs.Alike.{Alike}
use Rattle.token.proofs.Alike.{same_records}
use Rattle.lexer.specs.Taken.{Taken}
use Rattle.lexer.proofs.Alike.{same_verdict}
use Rattle.plan.specs.Answers.{ListAnswer, list_answer}
use Rattle.list.specs.Records.{Tokenized}
use Rattle.list.proofs.Answers.{one_list}

module _ (limit : ℕ) (s : List ℕ) (L M : Lists) (a : Alike L M) (l : Taken limit L) (m : Taken limit M) (on : Bool) (old : List Token) where
  answer_alike : list_answer limit s M on (length old) ≡ list_answer limit s L on (length old)
  answer_alike = rw (same_verdict limit s L M l m, same_records L M a on s) refl

  pub same_list : (r q : ListAnswer) (new other : List Token) → Tokenized limit s L on old r new → Tokenized limit s M on old q other → (r ≡ q) × (new ≡ other)
  same_list r q new other j k = one_list limit s L on old r q new other j (k.0 ∙ answer_alike, rw (same_records L M a on s) k.1)
