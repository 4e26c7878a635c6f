-- LISTS THAT HOLD THE SAME POINTS, said of the key call: where both choices of lists are taken, it answers the same and leaves the same buffer.
use Prim.Native.Nat.{ℕ}
use mathlib.Core.Path.{◌≡◌, refl, ◌∙◌}
use mathlib.Core.List.{List}
use lib.ListN.{length}
use Rattle.token.specs.Lists.{Lists}
use Rattle.token.specs.Alike.{Alike}
use Rattle.lexer.specs.Taken.{Taken}
use Rattle.lexer.proofs.Alike.{same_verdict}
use Rattle.line_ends.specs.LineEnds.{replaced}
use Rattle.canon.proofs.Alike.{same_broken, same_key}
use Rattle.key.specs.Answers.{KeyAnswer}
use Rattle.key.specs.Answers.{key_answer, Keying}
use Rattle.key.proofs.Answers.{one_answer, one_buffer}

module _ {limit : ℕ} {s before after later : List ℕ} {L M : Lists} {r q : KeyAnswer} (a : Alike L M) (l : Taken limit L) (m : Taken limit M) (j : Keying limit s L before after r) (k : Keying limit s M before later q) where
  answer_alike : key_answer limit s M (length before) ≡ key_answer limit s L (length before)
  answer_alike = rw (same_verdict limit s L M l m, same_broken L M a (replaced s), same_key L M a (replaced s)) refl

  -- the promise with the one choice is the promise with the other
  keying_alike : Keying limit s L before later q
  keying_alike = record { answer = k.answer ∙ answer_alike; holds = rw (same_key L M a (replaced s)) k.holds }

  pub alike_answer : r ≡ q
  alike_answer = one_answer j keying_alike

  pub alike_buffer : after ≡ later
  alike_buffer = one_buffer j keying_alike
