-- What a check says: nothing where it lets through, else its refusal, which is handed on whole.
use Rattle.std.specs.Prelude.{Result, Ok}
use Rattle.refusal.specs.declared.Bad.{Bad}

abbrev pub Verdict : Type 0
Verdict = Result (Unit {0}) Bad

abbrev pub fine : Verdict
fine = Ok tt
