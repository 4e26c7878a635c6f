-- Document 01, "Nothing left open": two answers that the promise allows for the same arguments are the same, and so are the runs.
use Prim.Native.Nat.{ℕ}
use mathlib.Core.Path.{◌≡◌, sym, ap, ◌∙◌}
use mathlib.Core.List.{List}
use Rattle.refusal.specs.declared.Numbers.{Numbers}
use Rattle.lists_file.specs.Load.{load}
use Rattle.lists_in.specs.Answers.{ReadAnswer, run_after, lists_in, Reading}
use Rattle.lists_in.proofs.read_numbers.Reads as numbers

module _ {limit : ℕ} {file a b c starts continues emoji s t u : List ℕ} {r q : ReadAnswer}
    (f : Reading limit file a b c starts continues emoji r) (g : Reading limit file a b c s t u q) where
  pub one_read_answer : r ≡ q
  one_read_answer = f.answer ∙ sym g.answer

  pub one_starts : starts ≡ s
  one_starts = f.starts_hold ∙ ap (λ (x : ReadAnswer). run_after x (lists_in (load file)).starts a) one_read_answer ∙ sym g.starts_hold

  pub one_continues : continues ≡ t
  one_continues = f.continues_hold ∙ ap (λ (x : ReadAnswer). run_after x (lists_in (load file)).continues b) one_read_answer ∙ sym g.continues_hold

  pub one_emoji : emoji ≡ u
  one_emoji = f.emoji_hold ∙ ap (λ (x : ReadAnswer). run_after x (lists_in (load file)).emoji c) one_read_answer ∙ sym g.emoji_hold

pub one_read_numbers : (κs : _) (a : _) (r q : Numbers) (x y : _) → numbers.Post κs a r x → numbers.Post κs a q y → r ≡ q
one_read_numbers κs a r q x y p e = p ∙ sym e
