-- The bytes that wait between two calls: at most three.
use Rattle.std.specs.Prelude.{ℕ, List, [], ◌∷◌}
use Rattle.key_state.specs.declared.Kept.{Kept}
use Rattle.key_state.specs.declared.Kept.TheVariants.{Nothing, One, Two, Three}

abbrev pub kept_bytes : Kept → List ℕ
kept_bytes Nothing = []
kept_bytes (One a) = a ∷ []
kept_bytes (Two a b) = a ∷ b ∷ []
kept_bytes (Three a b c) = a ∷ b ∷ c ∷ []

-- and back; more than three never wait (`waits/proofs/Parts`: `kept_few`)
abbrev pub to_kept : List ℕ → Kept
to_kept [] = Nothing
to_kept (a ∷ []) = One a
to_kept (a ∷ b ∷ []) = Two a b
to_kept (a ∷ b ∷ c ∷ rest) = Three a b c
