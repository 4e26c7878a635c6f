-- Searches for an end.
use Rattle.std.specs.Prelude.{ℕ, zero, suc, pred, List, [], ◌∷◌, Bool, true, false, get_or, eqb}
use Rattle.basics.specs.Choice.{pick, and}
use Rattle.eaters.specs.Eat.{Got, Eater}

-- one character more before what another scan takes
abbrev pub after : {A : Type 0} → Got A → Got A
after r = record { took = suc r.took; said = r.said }

-- A scan for an end, at a depth: it ends well where the depth is 0, and badly where the text ends first or a turn breaks off.
-- A turn sees the depth, the next character and the one after it. It takes the next character and some more and goes on at a depth, or breaks off.
pub data Turn : Type 0 where
  taking : (more depth : ℕ) → Turn
  break_off : Turn

-- take the character, and end well
abbrev pub close : Turn
close = taking 0 0

-- take the character, and go on at this depth
abbrev pub go : (depth : ℕ) → Turn
go d = taking 0 d

-- take the character and the next one, and go on at this depth
abbrev pub skip : (depth : ℕ) → Turn
skip d = taking 1 d

-- take both, and go on one deeper, or one less deep
abbrev pub deeper : (depth : ℕ) → Turn
deeper d = skip (suc d)

abbrev pub shallower : (depth : ℕ) → Turn
shallower d = skip (pred d)

abbrev pub turned : Turn → (ℕ → ℕ → Got Bool) → Got Bool
turned (taking k d) scan = after (scan k d)
turned break_off scan = record { took = 0; said = false }

-- with k characters still to be taken, at a depth. It says whether it ended well.
unfoldable pub scan : (ℕ → ℕ → ℕ → Turn) → (k depth : ℕ) → Eater Bool
scan turn zero zero [] = record { took = 0; said = true }
scan turn zero (suc d) [] = record { took = 0; said = false }
scan turn (suc k) d [] = record { took = 0; said = false }
scan turn zero zero (c ∷ cs) = record { took = 0; said = true }
scan turn zero (suc d) (c ∷ cs) = turned (turn (suc d) c (get_or cs 0 0)) (λ k e. scan turn k e cs)
scan turn (suc k) d (c ∷ cs) = after (scan turn k d cs)

-- n characters x are at the front
abbrev pub run : ℕ → ℕ → List ℕ → Bool
run x zero cs = true
run x (suc n) [] = false
run x (suc n) (c ∷ cs) = and (eqb c x) (run x n cs)

-- up to and with the first x that has n characters y after it, and those: whether there is one
unfoldable pub first_with : (x y n : ℕ) → Eater Bool
first_with x y n [] = record { took = 0; said = false }
first_with x y n (c ∷ cs) = pick (and (eqb c x) (run y n cs)) (record { took = suc n; said = true }) (after (first_with x y n cs))
