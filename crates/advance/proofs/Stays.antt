-- On stays on through whitespace only, in the facts of the code: a law for readers, which the check of `stays_on` does without.
use mathlib.Core.Path.{◌≡◌, refl}
use mathlib.Core.Bool.{Bool, true, false}
use Rattle.basics.specs.Choice.{and}
use Rattle.token.specs.declared.TokenKind.{TokenKind}
use Rattle.token.specs.declared.TokenKind.TheVariants.{Whitespace}
use Rattle.token.specs.Advance.{stays}

pub stays_other : (on : Bool) (k : TokenKind) → (k ≡ Whitespace → ⊥) → false ≡ and on (stays k)
stays_other on Whitespace h = absurd (h refl)
stays_other true k h = refl
stays_other false k h = refl
