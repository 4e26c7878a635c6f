-- `frontmatter::recover` meets its contract. To the place, and past the rest of its line (Rules).
use Rattle.frontmatter.proofs.Rules.{line_at_lem, line_none}
use Rattle.frontmatter.proofs.recover.Goals as goal

pub returns-in-Some : goal.returns-in-Some
returns-in-Some c = search line_at_lem

pub returns-in-None : goal.returns-in-None
returns-in-None c = search line_none
