-- `literals::eat_literal_suffix` meets its contract. A suffix is read, or not (Suffixes).
use Rattle.literals.proofs.Suffixes.{suffix_read, suffix_none}
use Rattle.literals.proofs.eat_literal_suffix.Goals as goal

pub returns-then-suffixed : goal.returns-then-suffixed
returns-then-suffixed c = search suffix_read

pub returns-else-suffixed : goal.returns-else-suffixed
returns-else-suffixed c = search suffix_none
