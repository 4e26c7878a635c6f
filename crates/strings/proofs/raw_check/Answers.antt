-- `strings::raw_check` meets its contract. By the character after the hashes, and by the search for the end (Checks).
use borrow.Author.Tests.{not-false, not-true}
use Rattle.strings.proofs.Bounds.{count_fits}
use Rattle.strings.proofs.Checks.{bad_starter, check_good, check_many, check_none}
use Rattle.strings.proofs.raw_check.Goals as goal

pub returns-then-c-ne34 : goal.returns-then-c-ne34
returns-then-c-ne34 c = search bad_starter

pub returns-then-n-lt256 : goal.returns-then-n-lt256
returns-then-n-lt256 c = search (check_good, not-false)

pub narrow-requires : goal.narrow-requires
narrow-requires c = search count_fits

pub narrow-requires-2 : goal.narrow-requires-2
narrow-requires-2 c = search count_fits

pub returns-then-not-raw_rest : goal.returns-then-not-raw_rest
returns-then-not-raw_rest c = search (check_none, not-true)

pub returns : goal.returns
returns c = search (check_many, not-false)
