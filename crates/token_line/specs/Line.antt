-- The line of a token: the name of its kind, a tab, its length in decimal, a newline.
use Rattle.std.specs.Prelude.{ℕ, ◌≤◌, ◌≡◌, List, [], ◌∷◌, ◌++◌, length}
use Rattle.fields.specs.Numerals.{numeral}
use Rattle.token.specs.declared.TokenKind.{TokenKind}
use Rattle.token.specs.Kinds.{kind_name}

-- these bytes are the name of a kind
pub record Named (kind : TokenKind) (bytes : List ℕ) : Type 0 where
  pub same : bytes ≡ kind_name kind
  pub few : length bytes ≤ 21

unfoldable pub front : TokenKind → (len : ℕ) → List ℕ
front kind len = kind_name kind ++ (9 ∷ numeral 10 len)

unfoldable pub line : TokenKind → (len : ℕ) → List ℕ
line kind len = front kind len ++ (10 ∷ [])

-- with the number of line feeds before it, after one more tab
unfoldable pub lined_line : TokenKind → (len feeds : ℕ) → List ℕ
lined_line kind len feeds = front kind len ++ (9 ∷ (numeral 10 feeds ++ (10 ∷ [])))
