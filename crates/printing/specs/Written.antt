-- What a writer whose bytes are known was given so far.
use Rattle.std.specs.Prelude.{◌≡◌, List, ℕ, ◌++◌}
use Rattle.std.specs.declared.option.Option.{Option}
use Rattle.std.specs.Io.KnownBytes.{Appends}

-- the writer's bytes have grown, and what they grew by, and then what is left, is all of it
pub record Written (before now : Option (List ℕ)) (left all : List ℕ) : Type 0 where
  pub wrote : List ℕ
  pub grown : Appends before now wrote
  pub whole : wrote ++ left ≡ all
