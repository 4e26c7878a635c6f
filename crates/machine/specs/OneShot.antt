-- What the one-shot key of a text comes to (document 01, "The key"): its key, or the place of its first broken token.
use Rattle.std.specs.Prelude.{ℕ, ◌+◌, List, [], ◌∷◌}
use Rattle.basics.specs.Choice.{pick}
use Rattle.text.specs.Chars.{size, encode}
use Rattle.eaters.specs.Find.{Place, at, nowhere}
use Rattle.token.specs.Lists.{Lists}
use Rattle.token.specs.Tokens.{Piece}
use Rattle.token.specs.Broken.{is_broken}
use Rattle.token.specs.Trivia.{is_trivia}
use Rattle.canon.specs.Keyable.{broken_at}
use Rattle.canon.specs.Meaning.{Item, meant, gap_before}
use Rattle.canon.specs.Key.{written, key_of}
use Rattle.machine.specs.Machine.{Result, ok, bad}

-- a key, unless a token is broken
abbrev pub key_or : Place → (key : List ℕ) → Result
key_or nowhere key = ok key
key_or (at place) key = bad place

-- the items of tokens of characters, with their characters in place of bytes
abbrev pub items_of : List Piece → List Item
items_of [] = []
items_of (t ∷ ts) = pick (is_trivia t.kind) (gap_before (items_of ts)) (meant t.kind t.text ∷ items_of ts)

-- where the first broken one of tokens of characters starts, in bytes, the first of them at `start`
abbrev pub broken_from : (start : ℕ) → List Piece → Place
broken_from start [] = nowhere
broken_from start (t ∷ ts) = pick (is_broken t.kind) (at start) (broken_from (start + size t.text) ts)

-- THE ONE-SHOT KEY of tokens of characters: the key's characters, or the place of the first broken token, in bytes
abbrev pub of_chars : List Piece → Result
of_chars ts = key_or (broken_from 0 ts) (written (items_of ts))

-- THE ONE-SHOT KEY of a text's bytes
abbrev pub one_shot : Lists → (s : List ℕ) → Result
one_shot L s = key_or (broken_at L s) (key_of L s)

-- characters written out as bytes
abbrev pub in_bytes : Result → Result
in_bytes (ok key) = ok (encode key)
in_bytes (bad place) = bad place
