use mathlib.Core.Path.{◌∙◌, sym}
use borrow.Author.Tests.{lt-ltb}
use Rattle.ranges.proofs.Pairs.{clear_near, clear_far}
use Rattle.ranges.proofs.clear.Goals as goal

pub returns-then-low-gt8233 : goal.returns-then-low-gt8233
returns-then-low-gt8233 c = lt-ltb _ _ c.if-low-gt8233.true ∙ clear_far _ _ (sym c.meets.ensures ∙ c.if-not-meets.true) c.if-low-gt8233.true

pub returns-else-low-gt8233 : goal.returns-else-low-gt8233
returns-else-low-gt8233 c = c.below.ensures ∙ clear_near _ _ (sym c.meets.ensures ∙ c.if-not-meets.true)
