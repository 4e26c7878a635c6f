-- `frontmatter::eat_all` meets its contract. Each character is wanted (Rules).
use Rattle.std.proofs.Common.{rules}
use Rattle.frontmatter.proofs.Rules.{all_over}
use Rattle.frontmatter.proofs.eat_all.Goals as goal

pub returns : goal.returns
returns c = all_over (c.eat_while.ensures _ (λ x b h k. search rules))
