-- `strings::validate_raw_str` meets its contract. A text that the check lets through is not too long.
use Rattle.text.proofs.Verdicts.{fine_text}
use Rattle.strings.proofs.validate_raw_str.Goals as goal

pub raw_check-requires : goal.raw_check-requires
raw_check-requires c = fine_text _ c.check_text.ensures (c.in_ok-check_text.was)
