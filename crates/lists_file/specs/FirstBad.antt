-- THE FIRST BAD LINE (document 02, W1: refusal 9), said without the reader: the lines before it are a file by themselves, and with it they are none. Before
-- line 0 there is none.
use Rattle.std.specs.Prelude.{ℕ, zero, suc, ◌≡◌, List, [], ◌∷◌, eqb}
use Rattle.basics.specs.Choice.{pick}
use Rattle.lists_file.specs.Names.{newline}
use Rattle.lists_file.specs.File.{IsFile}

-- the first lines of a text, each with its LF, which the last one may lack
unfoldable pub first_lines : (many : ℕ) → List ℕ → List ℕ
first_lines zero s = []
first_lines (suc many) [] = []
first_lines (suc many) (c ∷ s) = c ∷ pick (eqb c newline) (first_lines many s) (first_lines (suc many) s)

pub record FirstBad (s : List ℕ) (index : ℕ) : Type 0 where
  pub before : (index ≡ 0 → ⊥) → IsFile (first_lines index s)
  pub here : IsFile (first_lines (suc index) s) → ⊥
