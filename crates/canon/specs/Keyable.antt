-- Which texts have a key (document 01, "The key" and refusal 6): those with no broken token, frontmatter off.
use Rattle.std.specs.Prelude.{ℕ, ◌≡◌, false, List, [], ◌∷◌}
use Rattle.basics.specs.Choice.{pick}
use Rattle.eaters.specs.Find.{Place, at, nowhere}
use Rattle.token.specs.declared.Token.{Token}
use Rattle.token.specs.Lists.{Lists}
use Rattle.token.specs.Tokens.{records}
use Rattle.token.specs.Broken.{is_broken}

-- where the first broken one of some tokens starts
abbrev pub first_broken : List Token → Place
first_broken [] = nowhere
first_broken (t ∷ ts) = pick (is_broken t.kind) (at t.start) (first_broken ts)

-- the same of the tokens of a text
abbrev pub broken_at : Lists → (s : List ℕ) → Place
broken_at L s = first_broken (records L false s)

-- KEYABLE: no token is broken
abbrev pub Keyable : Lists → (s : List ℕ) → Type 0
Keyable L s = broken_at L s ≡ nowhere
