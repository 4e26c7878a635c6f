-- The bytes that wait, put at the beginning of a run.
use Rattle.std.specs.Prelude.{ℕ, ◌≡◌, List, ◌++◌, length, drop}
use Rattle.key_state.specs.declared.Kept.{Kept}
use Rattle.key_state.specs.Kept.{kept_bytes}

-- they are its first bytes, and past them it is as it was
pub record PutKept (kept : Kept) (before after : List ℕ) (r : ℕ) : Type 0 where
  pub holds : after ≡ kept_bytes kept ++ drop (length (kept_bytes kept)) before
  pub bytes : r ≡ length (kept_bytes kept)
