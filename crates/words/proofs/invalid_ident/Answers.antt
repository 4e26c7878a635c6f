-- `words::invalid_ident` meets its contract. The rule, from the run of its scan (Rules).
use Rattle.words.proofs.Rules.{invalid_in}
use Rattle.words.proofs.invalid_ident.Goals as goal

pub returns : goal.returns
returns c = search invalid_in
