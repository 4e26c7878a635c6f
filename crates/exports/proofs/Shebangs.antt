-- Where there is a shebang it ends past its mark, so 0 stands for none and for nothing else.
use Rattle.std.specs.Prelude.{None, Ok, Err}
use Prim.Native.Nat.{ℕ, ◌+◌, ◌≤◌}
use mathlib.Core.Path.{◌≡◌, refl, sym, ap, ◌∙◌}
use mathlib.Core.Bool.{Bool, true, false}
use mathlib.Core.List.{List, [], ◌∷◌}
use lib.Dec.{eqb}
use native.Mathlib.Omega.{arith}
use Rattle.basics.specs.Choice.{pick, and}
use Rattle.eaters.specs.Find.{Place, at, nowhere}
use Rattle.refusal.specs.declared.Bad.{Bad}
use Rattle.refusal.specs.declared.Bad.TheVariants as bad
use Rattle.refusal.specs.Verdict.{Verdict}
use Rattle.refusal.specs.Numbers.{bad_numbers}
use Rattle.refusal.specs.Order.{refused_or}
use Rattle.text.specs.Chars.{chars}
use Rattle.text.specs.Verdicts.{text_verdict}
use Rattle.token.specs.declared.TokenKind.TheVariants as kind
use Rattle.token.specs.Kinds.{kind_number}
use Rattle.token.specs.Lists.{Lists}
use Rattle.token.specs.Names.{is, '#', '!'}
use Rattle.token.specs.Tokens.{tokens}
use Rattle.token.specs.Shebang.{meaningful, line_bytes, after_mark, shebang}
use Rattle.shebang.specs.Answers.{shebang_at, shebang_answer, shebang_numbers}
use Rattle.exports.specs.declared.Answer.{Answer}
use Rattle.exports.specs.Shebangs.{StrippedOut}

-- a place past the mark, or none
abbrev Past : Place → Type 0
Past (at n) = 2 ≤ n
Past nowhere = Unit {0}

past_either : (t : Bool) (p q : Place) → Past p → Past q → Past (pick t p q)
past_either true p q a b = a
past_either false p q a b = b

shebang_past : (L : Lists) (cs : List ℕ) → Past (shebang L cs)
unfolding shebang
shebang_past L [] = tt
shebang_past L (a ∷ []) = tt
shebang_past L (a ∷ b ∷ cs) =
    past_either (and (is '#' a) (is '!' b)) (after_mark L cs) nowhere
    (past_either (eqb (kind_number (meaningful (tokens L false cs))) (kind_number kind.OpenBracket)) nowhere (at (2 + line_bytes cs)) tt (omega arith))
    tt

-- no refusal has the number 0
refused_some : (x : Bad) → (bad_numbers x).number ≡ 0 → ⊥
refused_some bad.TooLong e = omega (arith, e)
refused_some (bad.List l p) e = omega (arith, e)
refused_some (bad.NotUtf8 n k) e = omega (arith, e)

absent_at : (v : Verdict) (p : Place) → Past p → (shebang_numbers (refused_or Err v (Ok (shebang_at p)))).number ≡ 0 → (shebang_numbers (refused_or Err v (Ok (shebang_at p)))).beside ≡ 0 → refused_or Err v (Ok (shebang_at p)) ≡ Ok None
absent_at (Ok tt) (at n) h e f = absurd (omega (arith, h, f))
absent_at (Ok tt) nowhere h e f = refl
absent_at (Err x) p h e f = absurd (refused_some x e)

-- 0 AND 0 are said only where there is no shebang
pub absent_told : {s : List ℕ} {r : Answer} → StrippedOut s r → r.number ≡ 0 → r.beside ≡ 0 → (L : Lists) → shebang_answer L s ≡ Ok None
absent_told {s} {r} x e f L =
    absent_at (text_verdict s) (shebang L (chars s)) (shebang_past L (chars s))
    (sym (ap (λ (a : Answer). a.number) (x.answer L)) ∙ e)
    (sym (ap (λ (a : Answer). a.beside) (x.answer L)) ∙ f)
