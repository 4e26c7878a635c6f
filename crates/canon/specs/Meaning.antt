-- What a text means to the key (document 01, "The key"): its meaningful tokens in their order, and where trivia stands among them, frontmatter off.
use Rattle.std.specs.Prelude.{ℕ, false, List, [], ◌∷◌, take, drop}
use Rattle.basics.specs.Choice.{pick}
use Rattle.token.specs.declared.Token.{Token}
use Rattle.token.specs.declared.TokenKind.{TokenKind}
use Rattle.token.specs.Lists.{Lists}
use Rattle.token.specs.Tokens.{records}
use Rattle.token.specs.Trivia.{is_trivia}

-- a longest run of trivia; or a meaningful token by its kind, which has its flags and its suffix start, and its bytes
pub data Item : Type 0 where
  gap : Item
  meant : TokenKind → (bytes : List ℕ) → Item

-- trivia before items: a run that is there already grows
abbrev pub gap_before : List Item → List Item
gap_before [] = gap ∷ []
gap_before (gap ∷ is) = gap ∷ is
gap_before (meant k b ∷ is) = gap ∷ meant k b ∷ is

-- the bytes of a token of a text
abbrev pub bytes_of : (s : List ℕ) → Token → List ℕ
bytes_of s t = take t.len (drop t.start s)

abbrev pub items_of : (s : List ℕ) → List Token → List Item
items_of s [] = []
items_of s (t ∷ ts) = pick (is_trivia t.kind) (gap_before (items_of s ts)) (meant t.kind (bytes_of s t) ∷ items_of s ts)

-- THE MEANING of a text
abbrev pub meaning : Lists → (s : List ℕ) → List Item
meaning L s = items_of s (records L false s)
