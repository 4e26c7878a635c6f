-- Looking ahead. With frontmatter off, a rule sees at most two characters past what it takes; with frontmatter on, it looks for three dashes too, and the
-- searches for the end of a frontmatter go through the whole rest. Nothing looks back. A character that is not there counts as 0, as in 000.
use Rattle.std.specs.Prelude.{ℕ, List, [], ◌∷◌, Bool, true, false, get_or, eqb}
use Rattle.basics.specs.Choice.{pick, and}
use Rattle.eaters.specs.Eat.{Eater, eat, ◌>>◌}

-- one scan or the other, as the next character says
unfoldable pub if_at : {A : Type 0} → (ℕ → Bool) → Eater A → Eater A → Eater A
if_at p this that cs = pick (p (get_or cs 0 0)) (this cs) (that cs)

-- as the next two say
unfoldable pub if_two : {A : Type 0} → (ℕ → Bool) → (ℕ → Bool) → Eater A → Eater A → Eater A
if_two p q this that cs = pick (and (p (get_or cs 0 0)) (q (get_or cs 1 0))) (this cs) (that cs)

-- take the next character if it is of p
abbrev pub if_eat : {A : Type 0} → (ℕ → Bool) → Eater A → Eater A → Eater A
if_eat p this that = if_at p (eat 1 >> this) that

-- these characters are at the front
abbrev pub begins : List ℕ → List ℕ → Bool
begins [] cs = true
begins (x ∷ l) [] = false
begins (x ∷ l) (c ∷ cs) = and (eqb c x) (begins l cs)

-- as the characters at the front say
unfoldable pub if_begins : {A : Type 0} → List ℕ → Eater A → Eater A → Eater A
if_begins l this that cs = pick (begins l cs) (this cs) (that cs)
