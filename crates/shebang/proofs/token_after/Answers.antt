-- `shebang::token_after` meets its contract. Frontmatter is off (Follows).
use Rattle.shebang.proofs.Follows.{off_plain}
use Rattle.shebang.proofs.token_after.Goals as goal

pub returns : goal.returns
returns c = search off_plain
