-- No key is longer than its text.
use Prim.Native.Nat.{ℕ, ◌+◌, ◌≤◌}
use mathlib.Core.Path.{ap}
use mathlib.Core.Bool.{Bool, true, false}
use mathlib.Core.List.{List, [], ◌∷◌}
use lib.ListN.{length, take, drop, length-append, length-take}
use native.Mathlib.Omega.{arith}
use Rattle.basics.specs.Choice.{pick}
use Rattle.text.specs.Chars.{chars, size}
use Rattle.text.proofs.Texts.{size_chars}
use Rattle.token.specs.Lists.{Lists}
use Rattle.token.specs.Tokens.{Piece, tokens, placed}
use Rattle.token.specs.Trivia.{is_trivia}
use Rattle.token.proofs.Cover.{Row, next, records_in_row, texts, cover, size_append}
use Rattle.canon.specs.Meaning.{Item, gap, meant, gap_before, items_of}
use Rattle.canon.specs.Key.{written, key_of}

-- trivia adds one byte at the most
gap_short : (m : List Item) (n : ℕ) → 1 ≤ n → length (written (gap_before m)) ≤ n + length (written m)
gap_short [] n h = omega arith
gap_short (gap ∷ m) n h = omega arith
gap_short (meant k b ∷ m) n h = omega arith

-- a token has at least one byte, and in the key no more than in the text
items_short : (s : List ℕ) (start : ℕ) (ts : List Piece) → Row start (placed s start ts) → length (written (items_of s (placed s start ts))) ≤ size (texts ts)
items_short s start [] r = omega arith
items_short s start (t ∷ ts) (next e h r) = go (is_trivia t.kind) (items_short s (start + size t.text) ts r)
  where
    later : List Item
    later = items_of s (placed s (start + size t.text) ts)

    own : List ℕ
    own = take (size t.text) (drop start s)

    go : (b : Bool) → length (written later) ≤ size (texts ts) → length (written (pick b (gap_before later) (meant t.kind own ∷ later))) ≤ size (texts (t ∷ ts))
    go true i = omega (arith, gap_short later (size t.text) h, size_append t.text (texts ts))
    go false i = omega (arith, length-append own (written later), length-take (size t.text) (drop start s), size_append t.text (texts ts))

-- NO KEY IS LONGER than its text, whatever the bytes and the lists
pub key_short : (L : Lists) (s : List ℕ) → length (key_of L s) ≤ length s
key_short L s = omega (arith, items_short s 0 (tokens L false (chars s)) (records_in_row L false s), ap size (cover L false (chars s)), size_chars s)
