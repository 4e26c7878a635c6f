-- `frontmatter::eat_infostring` meets its contract. By the next character (Rules).
use Rattle.frontmatter.proofs.Rules.{string_in, string_none}
use Rattle.frontmatter.proofs.eat_infostring.Goals as goal

pub returns-then-is_start : goal.returns-then-is_start
returns-then-is_start c = search string_in

pub returns : goal.returns
returns c = search string_none
