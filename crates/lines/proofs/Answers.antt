-- Document 01, "Nothing left open": two answers that the promise allows for the same arguments are the same, and so are the two buffers.
use mathlib.Core.Path.{◌≡◌, sym, ap, ◌∙◌}
use mathlib.Core.List.{List, ◌++◌}
use Prim.Native.Nat.{ℕ}
use lib.ListN.{drop}
use Rattle.token.specs.Lists.{Lists}
use Rattle.lines.specs.declared.Chunk.{Chunk}
use Rattle.lines.specs.Lines.{lines_of}
use Rattle.lines.specs.Filled.{chosen, Filled}

module _ {L : Lists} {s out₀ o p : List ℕ} {at : ℕ} {r q : Chunk} (f : Filled L s at out₀ o r) (g : Filled L s at out₀ p q) where
  same_used : r.used ≡ q.used
  same_used = f.used ∙ sym g.used

  same_next : r.next ≡ q.next
  same_next = f.next ∙ sym g.next

  pub one_chunk : r ≡ q
  one_chunk = rw (same_next, same_used)

  pub one_buffer : o ≡ p
  one_buffer = f.holds ∙ ap (λ (n : ℕ). lines_of (chosen L s at out₀) ++ drop n out₀) same_used ∙ sym g.holds
