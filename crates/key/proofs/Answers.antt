-- Document 01, "Nothing left open": two answers that the promise allows for the same arguments are the same, and so are the two buffers.
use Prim.Native.Nat.{ℕ}
use mathlib.Core.Path.{◌≡◌, sym, ap, ◌∙◌}
use mathlib.Core.List.{List}
use Rattle.refusal.specs.declared.Numbers.{Numbers}
use Rattle.token.specs.Lists.{Lists}
use Rattle.line_ends.specs.LineEnds.{replaced}
use Rattle.canon.specs.Key.{key_of}
use Rattle.key.specs.Answers.{KeyAnswer}
use Rattle.key.specs.Answers.{buffer_after, Keying}
use Rattle.key.proofs.key_numbers.Reads as key_numbers

module _ {limit : ℕ} {s before after later : List ℕ} {L : Lists} {r q : KeyAnswer} (f : Keying limit s L before after r) (g : Keying limit s L before later q) where
  pub one_answer : r ≡ q
  one_answer = f.answer ∙ sym g.answer

  pub one_buffer : after ≡ later
  one_buffer = f.holds ∙ ap (λ (x : KeyAnswer). buffer_after x (key_of L (replaced s)) before) one_answer ∙ sym g.holds

-- the answer by number
pub one_key_numbers : (κs : _) (a : _) (r q : Numbers) (x y : _) → key_numbers.Post κs a r x → key_numbers.Post κs a q y → r ≡ q
one_key_numbers κs a r q x y p e = p ∙ sym e
