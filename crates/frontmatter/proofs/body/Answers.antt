-- `frontmatter::body` meets its contract. By whether there is a closing fence (Rules).
use Rattle.frontmatter.proofs.Rules.{body_closed, body_open}
use Rattle.frontmatter.proofs.body.Goals as goal

pub returns-in-Some : goal.returns-in-Some
returns-in-Some c = search body_closed

pub returns-in-None : goal.returns-in-None
returns-in-None c = search body_open
