-- `frontmatter::frontmatter` meets its contract. The rule, from the runs of its scans (Rules).
use Rattle.frontmatter.proofs.Rules.{more_fits, frontmatter_in}
use Rattle.frontmatter.proofs.frontmatter.Goals as goal

pub overflow_add-more : goal.overflow_add-more
overflow_add-more c = search more_fits

pub returns : goal.returns
returns c = search frontmatter_in
