-- What was held back, as characters.
use Rattle.std.specs.Prelude.{ℕ, List, [], ◌∷◌}
use Rattle.token.specs.Names.{'newline', '*', '/'}
use Rattle.turns.specs.declared.Before.{Before}
use Rattle.turns.specs.declared.Before.TheVariants.{Nothing, Newline, Slash, Slashes, Slashes3, Star, Stars}

abbrev pub before_out : Before → List ℕ
before_out Nothing = []
before_out Newline = 'newline' ∷ []
before_out Slash = '/' ∷ []
before_out Slashes = '/' ∷ '/' ∷ []
before_out Slashes3 = '/' ∷ '/' ∷ '/' ∷ []
before_out Star = '/' ∷ '*' ∷ []
before_out Stars = '/' ∷ '*' ∷ '*' ∷ []
