-- The key of a text (document 01, "The key"): its meaningful tokens byte for byte, and one newline byte for each longest run of trivia, at the ends too.
use Rattle.std.specs.Prelude.{ℕ, List, [], ◌∷◌, ◌++◌}
use Rattle.token.specs.Lists.{Lists}
use Rattle.token.specs.Names.{'newline'}
use Rattle.canon.specs.Meaning.{Item, gap, meant, meaning}

-- items written out
abbrev pub written : List Item → List ℕ
written [] = []
written (gap ∷ is) = 'newline' ∷ written is
written (meant k bytes ∷ is) = bytes ++ written is

-- THE KEY
abbrev pub key_of : Lists → (s : List ℕ) → List ℕ
key_of L s = written (meaning L s)
