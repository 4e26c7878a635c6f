-- What a function promises that puts bytes into a lent buffer: they stand at their place, and the rest is as it was.
use Rattle.std.specs.Prelude.{ℕ, ◌+◌, ◌≤◌, ◌≡◌, List, ◌++◌, length, take, drop}

-- out with xs at a place
unfoldable pub laid : List ℕ → ℕ → List ℕ → List ℕ
laid out at xs = take at out ++ (xs ++ drop (at + length xs) out)

-- xs were put into out at a place, and r is the place past them
pub record Put (xs out : List ℕ) (at : ℕ) (after : List ℕ) (r : ℕ) : Type 0 where
  pub holds : after ≡ laid out at xs
  pub next : r ≡ at + length xs
  pub room : r ≤ length out

-- the same of at most `most` bytes
pub record PutFew (most : ℕ) (xs out : List ℕ) (at : ℕ) (after : List ℕ) (r : ℕ) : Type 0 where
  pub put : Put xs out at after r
  pub few : length xs ≤ most
