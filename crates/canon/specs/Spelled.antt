-- What the tokens of a text say to a reader of bytes: the kind of each, which has its flags and its suffix start, and its bytes.
use Rattle.std.specs.Prelude.{ℕ, List, [], ◌∷◌}
use Rattle.token.specs.declared.Token.{Token}
use Rattle.token.specs.declared.TokenKind.{TokenKind}
use Rattle.token.specs.declared.TokenKind.TheVariants.{Whitespace}
use Rattle.token.specs.Names.{'newline'}
use Rattle.canon.specs.Meaning.{Item, gap, meant, bytes_of}

pub record Said : Type 0 where
  pub kind : TokenKind
  pub bytes : List ℕ

-- the tokens of a text
abbrev pub said_of : (s : List ℕ) → List Token → List Said
said_of s [] = []
said_of s (t ∷ ts) = record { kind = t.kind; bytes = bytes_of s t } ∷ said_of s ts

-- the tokens that a key is to have: the meaningful ones as they are, and one newline of whitespace for each longest run of trivia
abbrev pub spelled : List Item → List Said
spelled [] = []
spelled (gap ∷ is) = record { kind = Whitespace; bytes = 'newline' ∷ [] } ∷ spelled is
spelled (meant k bytes ∷ is) = record { kind = k; bytes = bytes } ∷ spelled is
