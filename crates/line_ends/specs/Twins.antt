-- Two texts that differ only in CR LF for LF (document 02, W3): each is made from the other by writing some line ends in the other way.
use Rattle.std.specs.Prelude.{ℕ, List, [], ◌∷◌}
use Rattle.token.specs.Names.{'newline', 'carriage_return'}

pub data Twins : List ℕ → List ℕ → Type 0 where
  none : Twins [] []
  same : {c : ℕ} {s t : List ℕ} → Twins s t → Twins (c ∷ s) (c ∷ t)
  former : {s t : List ℕ} → Twins s t → Twins ('carriage_return' ∷ 'newline' ∷ s) ('newline' ∷ t)
  latter : {s t : List ℕ} → Twins s t → Twins ('newline' ∷ s) ('carriage_return' ∷ 'newline' ∷ t)
