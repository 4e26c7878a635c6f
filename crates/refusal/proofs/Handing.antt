-- Answers of calls, in the facts of the code: a refusal is handed on whole, and an answer has the numbers of its case.
use Rattle.std.specs.Prelude.{Err}
use mathlib.Core.Path.{◌≡◌, sym, ap, ◌∙◌}
use Rattle.refusal.specs.declared.Bad.{Bad}
use Rattle.refusal.specs.declared.Numbers.{Numbers}
use Rattle.refusal.specs.Verdict.{Verdict, fine}
use Rattle.refusal.specs.Order.{refused_or}

module _ {A : Type 0} (refuse : Bad → A) {v w : Verdict} (e : v ≡ w) where
  pub refused_in : (x : A) {bad : Bad} → v ≡ Err bad → refuse bad ≡ refused_or refuse w x
  refused_in x k = rw (← e, k)

  pub fine_in : {x y : A} → v ≡ fine → y ≡ x → y ≡ refused_or refuse w x
  fine_in k q = rw (← e, k) q

-- the numbers of a case
pub of_case : {A : Type 0} (F : A → Numbers) {a b : A} {n : Numbers} → a ≡ b → n ≡ F b → n ≡ F a
of_case F e m = m ∙ ap F (sym e)
