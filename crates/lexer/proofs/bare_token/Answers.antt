-- `lexer::bare_token` meets its contract. The end, or what the decision over the first character gives, in bytes (Scanning).
use Rattle.lexer.proofs.Scanning.{at_end, kind_narrow, not_before, len_narrow, scanned}
use Rattle.lexer.proofs.bare_token.Goals as goal

pub returns-in_default : goal.returns-in_default
returns-in_default c = rw (← c.source.view_is) (search at_end)

pub kind_from-kind-requires : goal.kind_from-kind-requires
kind_from-kind-requires c = search kind_narrow

pub overflow_sub-next : goal.overflow_sub-next
overflow_sub-next c = search not_before

pub narrow-requires : goal.narrow-requires
narrow-requires c = search len_narrow

pub returns : goal.returns
returns c = rw (← c.source.view_is) (search scanned)
