-- The first token that is not trivia: the first token decides, or those past it, if it is trivia.
use Prim.Native.Nat.{ℕ}
use mathlib.Core.Path.{◌≡◌, refl, ap, ◌∙◌}
use mathlib.Core.Bool.{Bool, true, false}
use mathlib.Core.List.{List, [], ◌∷◌}
use Rattle.basics.specs.Choice.{pick}
use Rattle.eaters.specs.Eat.{choose}
use Rattle.token.specs.declared.TokenKind.{TokenKind}
use Rattle.token.specs.Lists.{Lists}
use Rattle.token.specs.Advance.{plain, advance}
use Rattle.token.specs.Tokens.{tokens_after, tokens}
use Rattle.token.specs.Trivia.{is_trivia}
use Rattle.token.specs.Shebang.{meaningful, is_bracket, bracketed}
use Rattle.token.proofs.Cover.{tokens_step}
use Rattle.cursor.specs.Ran.{left}

bracket_pick : (t : Bool) (j k : TokenKind) → is_bracket (pick t j k) ≡ pick t (is_bracket j) (is_bracket k)
bracket_pick true j k = refl
bracket_pick false j k = refl

pub bracket_none : (L : Lists) → bracketed L [] ≡ false
unfolding tokens_after
bracket_none L = refl

pub bracket_step : (L : Lists) (c : ℕ) (cs : List ℕ)
    → bracketed L (c ∷ cs) ≡ pick (is_trivia (plain L c cs).said) (bracketed L (left (plain L c) cs)) (is_bracket (plain L c cs).said)
unfolding advance choose
bracket_step L c cs =
    ap (λ ts. is_bracket (meaningful ts)) (tokens_step L false c cs)
    ∙ bracket_pick (is_trivia (plain L c cs).said) (meaningful (tokens L false (left (plain L c) cs))) (plain L c cs).said
