-- Where an ill-formed sequence stands that no more bytes can mend, if one does: its place and its cause (document 02, W2).
use Rattle.std.specs.Prelude.{ℕ, Option}
use Rattle.refusal.specs.declared.Cause.{Cause}

abbrev pub Stop : Type 0
Stop = Option (ℕ × Cause)
