-- What a check's verdict says of the lists and of the answer.
use Prim.Native.Nat.{ℕ}
use mathlib.Core.Path.{◌≡◌, sym, ◌∙◌}
use mathlib.Core.List.{List}
use Rattle.refusal.specs.Verdict.{Verdict, fine}
use Rattle.refusal.specs.Order.{first}
use Rattle.refusal.proofs.Orders.{first_1, first_2}
use Rattle.ranges.specs.Rules.{list_verdict, Good}
use Rattle.ranges.proofs.Laws.{fine_good}
use Rattle.text.specs.Verdicts.{too_long, utf8_verdict}
use Rattle.classes.specs.Answers.{ident_verdict}

-- a list that its check lets through is good
pub listed_good : (limit which : ℕ) (l : List ℕ) {v : Verdict} → v ≡ list_verdict limit which l → v ≡ fine → Good l
listed_good limit which l e k = fine_good limit which l (sym e ∙ k)

module _ (limit : ℕ) (s a b : List ℕ) {v : Verdict} (e : v ≡ ident_verdict limit s a b) (k : v ≡ fine) where
  both : first (list_verdict limit 0 a) (first (list_verdict limit 1 b) fine) ≡ fine
  unfolding ident_verdict
  both = first_1 _ (utf8_verdict s) (first_2 (too_long s) _ (sym e ∙ k))

  pub ident_starts : Good a
  ident_starts = fine_good limit 0 a (first_1 _ _ both)

  pub ident_continues : Good b
  ident_continues = fine_good limit 1 b (first_1 _ _ (first_2 (list_verdict limit 0 a) _ both))
