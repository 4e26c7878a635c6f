-- Document 01, "Nothing left open": two answers that the promise allows for the same bytes are the same answer.
use Prim.Native.Nat.{ℕ}
use mathlib.Core.Path.{◌≡◌, sym, ◌∙◌}
use Rattle.line_feeds.proofs.count.Reads as count

pub one_count : (κs : _) (a : _) (r q : ℕ) (x y : _) → count.Post κs a r x → count.Post κs a q y → r ≡ q
one_count κs a r q x y p e = p ∙ sym e
