-- Where characters are found.
use Rattle.std.specs.Prelude.{ℕ, suc, List, [], ◌∷◌, Bool}
use Rattle.basics.specs.Choice.{pick}

pub data Place : Type 0 where
  at : ℕ → Place
  nowhere : Place

-- one place further
abbrev pub further : Place → Place
further (at k) = at (suc k)
further nowhere = nowhere

-- the first place at which a test of the characters from there on holds; the end is a place too
unfoldable pub find : (List ℕ → Bool) → List ℕ → Place
find p [] = pick (p []) (at 0) nowhere
find p (c ∷ cs) = pick (p (c ∷ cs)) (at 0) (further (find p cs))

-- the first of two that is somewhere
abbrev pub or_else : Place → Place → Place
or_else (at k) q = at k
or_else nowhere q = q
