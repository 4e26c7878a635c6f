-- `classes::is_id_continue` meets its contract. A list that its check lets through is good, so the test may be asked (Checks).
use Rattle.classes.proofs.Checks.{listed_good}
use Rattle.classes.proofs.is_id_continue.Goals as goal

pub id_continue-requires : goal.id_continue-requires
id_continue-requires c = listed_good _ _ _ c.check_list.ensures c.in_ok-check_list.was
