-- Parts lie within the file, past the number at the place where they were looked for, which says how long they are.
use Rattle.std.specs.Prelude.{ℕ, ◌+◌, ◌≤◌}
use Rattle.vectors.specs.declared.Part.{Part}
use Rattle.vectors.specs.declared.Vector.{Vector}

pub record Placed (n at : ℕ) (p : Part) : Type 0 where
  pub place : at + 4 ≤ p.from
  pub order : p.from ≤ p.to
  pub room : p.to ≤ n

-- the part that is handed in, and after it the answer
pub record VectorPlaced (n at : ℕ) (v : Vector) : Type 0 where
  pub input : Placed n (at + 4) v.input
  pub answer : Placed n v.input.to v.answer
