-- `fields::value_of` meets its contract: digit by digit, until they say more than is allowed (Values).
use Rattle.fields.proofs.Values.{Valuing}
use Rattle.fields.proofs.value_of.Given as goal

abbrev pub invariant-loop-c : goal.invariant-loop-c
invariant-loop-c l = Valuing l.base l.most l.s l.n l.c-index
