-- What a key needs: so many bytes, or that its first broken token is mended.
use Rattle.std.specs.Prelude.{ℕ, Result, Err}
use Rattle.engine.specs.declared.Broken.{Broken}

abbrev pub Need : Type 0
Need = Result ℕ Broken

abbrev pub mending : (start : ℕ) → Need
mending start = Err (record { start = start })
