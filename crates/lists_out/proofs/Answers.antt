-- Document 01, "Nothing left open": two answers that the promise allows for the same arguments are the same, and so are the two buffers.
use Prim.Native.Nat.{ℕ}
use mathlib.Core.Path.{◌≡◌, sym, ap, ◌∙◌}
use mathlib.Core.List.{List}
use Rattle.refusal.specs.declared.Numbers.{Numbers}
use Rattle.token.specs.Lists.{Lists}
use Rattle.lists_file.specs.declared.Version.{Version}
use Rattle.lists_file.specs.File.{file_of}
use Rattle.lists_out.specs.Answers.{WriteAnswer, buffer_after, Writing}
use Rattle.lists_out.proofs.write_numbers.Reads as write_numbers

module _ {limit : ℕ} {v : Version} {L : Lists} {before after later : List ℕ} {r q : WriteAnswer} (f : Writing limit v L before after r) (g : Writing limit v L before later q) where
  pub one_answer : r ≡ q
  one_answer = f.answer ∙ sym g.answer

  pub one_buffer : after ≡ later
  one_buffer = f.holds ∙ ap (λ (x : WriteAnswer). buffer_after x (file_of v L) before) one_answer ∙ sym g.holds

-- the answer by number
pub one_write_numbers : (κs : _) (a : _) (r q : Numbers) (x y : _) → write_numbers.Post κs a r x → write_numbers.Post κs a q y → r ≡ q
one_write_numbers κs a r q x y p e = p ∙ sym e
