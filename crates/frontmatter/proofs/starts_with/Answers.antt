use Rattle.frontmatter.proofs.Patterns.{matching_over, matching_on}
use Rattle.frontmatter.proofs.starts_with.Goals as goal

pub returns-in_default : goal.returns-in_default
returns-in_default c = search matching_over

pub loop-b-preserved : goal.loop-b-preserved
loop-b-preserved c = search matching_on
