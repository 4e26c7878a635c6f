-- `lexer::Source::new` meets its contract. What the verdict lets through is checked (Checks).
use Rattle.ranges.specs.declared.TheConstants.{MAX_PAIRS}
use Rattle.token.specs.Lists.{lent}
use Rattle.lexer.proofs.Checks.{fine_checked}
use Rattle.lexer.proofs.Source.new.Goals as goal

pub new-lists-requires : goal.new-lists-requires
new-lists-requires c =
    let k = fine_checked MAX_PAIRS c.args.text.now (lent c.args.starts.now c.args.continues.now c.args.emoji.now) c.token_verdict.ensures c.in_ok-token_verdict.was in
    (k.starts, (k.continues, k.emoji))

pub of-requires : goal.of-requires
of-requires c = rw c.new-lists.ensures (fine_checked MAX_PAIRS c.args.text.now (lent c.args.starts.now c.args.continues.now c.args.emoji.now) c.token_verdict.ensures c.in_ok-token_verdict.was)
