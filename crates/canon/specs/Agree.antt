-- When two texts mean the same (document 01, "The key"), said without the items that the key is written from: their meaningful tokens agree in
-- order, kind and bytes, and trivia stands before, between and after them in the same gaps. How much trivia stands in a gap, and of which kind, does
-- not count. Frontmatter is off.
use Rattle.std.specs.Prelude.{ℕ, ◌≡◌, Bool, true, false, List, [], ◌∷◌}
use Rattle.basics.specs.Choice.{pick}
use Rattle.token.specs.Lists.{Lists}
use Rattle.token.specs.Tokens.{records}
use Rattle.token.specs.Trivia.{is_trivia}
use Rattle.canon.specs.Spelled.{Said, said_of}

-- the tokens of a text: the kind of each, which has its flags and its suffix start, and its bytes
abbrev pub said_in : Lists → (s : List ℕ) → List Said
said_in L s = said_of s (records L false s)

-- those that are not trivia, in their order
abbrev pub not_trivia : List Said → List Said
not_trivia [] = []
not_trivia (t ∷ ts) = pick (is_trivia t.kind) (not_trivia ts) (t ∷ not_trivia ts)

-- a flag for the gap before each meaningful token, and one for the gap after the last: at least one token of trivia stands there. `trivia`: one stands
-- in the first gap already
abbrev pub gaps_with : (trivia : Bool) → List Said → List Bool
gaps_with trivia [] = trivia ∷ []
gaps_with trivia (t ∷ ts) = pick (is_trivia t.kind) (gaps_with true ts) (trivia ∷ gaps_with false ts)

abbrev pub gaps : List Said → List Bool
gaps ts = gaps_with false ts

-- THE TEXTS AGREE
pub record Agree (L : Lists) (s t : List ℕ) : Type 0 where
  pub tokens : not_trivia (said_in L s) ≡ not_trivia (said_in L t)
  pub trivia : gaps (said_in L s) ≡ gaps (said_in L t)
