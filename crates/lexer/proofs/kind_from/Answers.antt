-- `lexer::kind_from` meets its contract. By its cases; where a suffix starts fits a u32 (Scanning).
use Rattle.lexer.proofs.Scanning.{literal_kind, not_less, suffix_narrow, suffix_fits}
use Rattle.lexer.proofs.Scanning.{plain_kind}
use Rattle.lexer.proofs.kind_from.Goals as goal

pub overflow_sub-body : goal.overflow_sub-body
overflow_sub-body c = search not_less

pub overflow_add-body : goal.overflow_add-body
overflow_add-body c = search suffix_fits

pub narrow-requires : goal.narrow-requires
narrow-requires c = search suffix_narrow

pub returns-in-Plain : goal.returns-in-Plain
returns-in-Plain c = search plain_kind

pub returns-in-Literal : goal.returns-in-Literal
returns-in-Literal c = search literal_kind
