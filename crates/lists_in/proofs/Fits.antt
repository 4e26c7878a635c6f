-- What was loaded lies within the runs, for those who lend the front of a run on, in the facts of the code.
use Prim.Native.Nat.{ℕ, ◌≤◌}
use mathlib.Core.Path.{◌≡◌, sym}
use mathlib.Core.List.{List}
use lib.ListN.{length, take}
use lib.Seq.{length-take-le}
use Rattle.std.specs.Prelude.{Ok}
use Rattle.lists_in.specs.declared.Held.{Held}
use Rattle.lists_in.specs.Answers.{ReadAnswer, Reading}
use Rattle.lists_in.proofs.Calls.{loaded_lies}

module _ {limit : ℕ} {s a b c starts continues emoji : List ℕ} {r : ReadAnswer} {h : Held} (f : Reading limit s a b c starts continues emoji r) (q : r ≡ Ok h) where
  pub starts_fit : h.starts ≤ length starts
  starts_fit = (loaded_lies f q).in_starts

  pub starts_part : h.starts ≡ length (take h.starts starts)
  starts_part = sym (length-take-le h.starts starts starts_fit)

  pub continues_fit : h.continues ≤ length continues
  continues_fit = (loaded_lies f q).in_continues

  pub continues_part : h.continues ≡ length (take h.continues continues)
  continues_part = sym (length-take-le h.continues continues continues_fit)

  pub emoji_fit : h.emoji ≤ length emoji
  emoji_fit = (loaded_lies f q).in_emoji

  pub emoji_part : h.emoji ≡ length (take h.emoji emoji)
  emoji_part = sym (length-take-le h.emoji emoji emoji_fit)
