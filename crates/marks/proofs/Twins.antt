-- Texts that differ only in CR LF for LF both have a hidden mark or both have none.
use mathlib.Core.Path.{◌≡◌, sym, ap, ◌∙◌}
use mathlib.Core.List.{List}
use Prim.Native.Nat.{ℕ}
use Rattle.text.specs.Chars.{chars, WellFormed}
use Rattle.eaters.specs.Find.{nowhere}
use Rattle.line_ends.specs.LineEnds.{double_return}
use Rattle.line_ends.specs.Twins.{Twins}
use Rattle.line_ends.proofs.Twins.{twins_replaced}
use Rattle.marks.specs.Marks.{hidden_mark, no_marks}
use Rattle.marks.proofs.Keys.{none_marked, marked_none, replaced_none}

pub twins_unmarked : {s t : List ℕ} → Twins s t → WellFormed s → WellFormed t → double_return s ≡ nowhere → double_return t ≡ nowhere → hidden_mark s ≡ nowhere → hidden_mark t ≡ nowhere
twins_unmarked {s} {t} w f g d e h =
    marked_none 0 (chars t) (sym (replaced_none t g) ∙ ap (λ (l : List ℕ). no_marks (chars l)) (sym (twins_replaced w d e)) ∙ replaced_none s f ∙ none_marked 0 (chars s) h)
