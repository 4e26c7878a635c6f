-- `strings::guarded_rest` meets its contract. By whether the string ends (Strings).
use borrow.Author.Tests.{not-false, not-true}
use Rattle.strings.proofs.Strings.{ends, ends_not}
use Rattle.strings.proofs.guarded_rest.Goals as goal

pub returns-then-not-ended : goal.returns-then-not-ended
returns-then-not-ended c = search (ends_not, not-true)

pub returns : goal.returns
returns c = search (ends, not-false)
