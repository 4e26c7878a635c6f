-- `classes::is_ident` meets its contract. Lists that their checks let through are good (Checks).
use Rattle.classes.proofs.Checks.{ident_starts, ident_continues}
use Rattle.classes.proofs.is_ident.Goals as goal

pub ident-requires : goal.ident-requires
ident-requires c = (ident_starts _ _ _ _ c.ident_verdict.ensures c.in_ok-ident_verdict.was, ident_continues _ _ _ _ c.ident_verdict.ensures c.in_ok-ident_verdict.was)
