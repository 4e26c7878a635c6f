-- `classes::is_id_start` meets its contract. A list that its check lets through is good, so the test may be asked (Checks).
use Rattle.classes.proofs.Checks.{listed_good}
use Rattle.classes.proofs.is_id_start.Goals as goal

pub id_start-requires : goal.id_start-requires
id_start-requires c = listed_good _ _ _ c.check_list.ensures c.in_ok-check_list.was
