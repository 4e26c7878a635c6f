-- `classes::is_emoji_char` meets its contract. A list that its check lets through is good, so the test may be asked (Checks).
use Rattle.classes.proofs.Checks.{listed_good}
use Rattle.classes.proofs.is_emoji_char.Goals as goal

pub emoji_char-requires : goal.emoji_char-requires
emoji_char-requires c = listed_good _ _ _ c.check_list.ensures c.in_ok-check_list.was
