-- `frontmatter::recovery` meets its contract. The searches in their order, each where the one before found nothing (Recoveries).
use Rattle.std.proofs.Common.{rules}
use Rattle.frontmatter.proofs.Recoveries.{recovered}
use Rattle.frontmatter.proofs.recovery.Goals as goal

pub returns : goal.returns
returns c =
    recovered c.find_fence.ensures _ _ _ _
    c.or_else.ensures (λ k. search rules) c.or_else-2.ensures (λ k. search rules) c.or_else-3.ensures (λ k. search rules) c.or_else-4.ensures (λ k. search rules)
