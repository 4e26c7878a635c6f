-- What the replay promises of its counting.
use Rattle.std.specs.Prelude.{◌≡◌, ℕ, ◌+◌, ◌<◌, ◌≤◌, Bool}
use Rattle.basics.specs.Choice.{pick}
use Rattle.vectors.specs.declared.Part.{Part}
use Rattle.replay.specs.declared.Tally.{Tally}
use Rattle.replay.specs.declared.Stop.{Stop}
use Rattle.replay.specs.declared.Stop.TheVariants.{OutOfForm, Output}

-- a tally stands within the file, and has counted no more vectors than bytes
pub record Tallied (n : ℕ) (t : Tally) : Type 0 where
  pub room : t.at ≤ n
  pub few : t.same + t.other ≤ t.at

-- a part of a file lies within it
pub record Within (n : ℕ) (p : Part) : Type 0 where
  pub order : p.from ≤ p.to
  pub room : p.to ≤ n

-- a place that lies past another, within the file
pub record After (n at to : ℕ) : Type 0 where
  pub on : at < to
  pub room : to ≤ n

-- a vector that was compared is counted once, on the side where it belongs
pub record One (t : Tally) (to : ℕ) (agrees : Bool) (r : Tally) : Type 0 where
  pub place : r.at ≡ to
  pub once : r.same + r.other ≡ t.same + t.other + 1
  pub same : r.same ≡ t.same + pick agrees 1 0

-- of k vectors each was compared and counted once, further on in the file
pub record Steps (n k : ℕ) (t r : Tally) : Type 0 where
  pub counted : Tallied n r
  pub all : r.same + r.other ≡ t.same + t.other + k
  pub on : t.at ≤ r.at

-- of k vectors each that was compared is counted once
pub record Fewer (n k : ℕ) (t r : Tally) : Type 0 where
  pub counted : Tallied n r
  pub most : r.same + r.other ≤ t.same + t.other + k

-- where a file is out of form, what was counted up to there is handed back
abbrev pub Short : (n k : ℕ) → Tally → Stop → Type 0
Short n k t (OutOfForm r) = Fewer n k t r
Short n k t (Output why) = Unit {0}

-- where a file is out of form, what was counted up to there stands within it
abbrev pub Halted : (n : ℕ) → Stop → Type 0
Halted n (OutOfForm r) = Tallied n r
Halted n (Output why) = Unit {0}
