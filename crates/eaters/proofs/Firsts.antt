-- What is found first is first, and how a search for an end goes.
use Prim.Native.Nat.{ℕ, zero, suc, ◌+◌, ◌≤◌, ◌<◌, zero-le, suc-le-suc}
use mathlib.Core.Path.{◌≡◌, refl, ap, subst, ◌∙◌}
use mathlib.Core.List.{List, [], ◌∷◌, ◌++◌}
use mathlib.Core.Logic.{◌⊎◌, inl, inr}
use mathlib.Core.Bool.{Bool, true, false}
use lib.Dec.{eqb}
use lib.ListN.{length, get_or, take, drop, take-append-drop}
use native.Mathlib.Omega.{arith}
use Rattle.basics.specs.Choice.{pick, and}
use Rattle.basics.specs.Tests.{all}
use Rattle.eaters.specs.Eat.{Got, take_while}
use Rattle.eaters.specs.Scan.{after, Turn, taking, break_off, turned, scan, run, first_with}
use Rattle.eaters.specs.Find.{Place, at, nowhere, further, find}

-- a test holds at place k, and at no place before it
pub record First (p : List ℕ → Bool) (cs : List ℕ) (k : ℕ) : Type 0 where
  pub room : k ≤ length cs
  pub holds : p (drop k cs) ≡ true
  pub before : (j : ℕ) → j < k → p (drop j cs) ≡ false

-- and nowhere
pub record Never (p : List ℕ → Bool) (cs : List ℕ) : Type 0 where
  pub never : (j : ℕ) → j ≤ length cs → p (drop j cs) ≡ false

abbrev Found : (List ℕ → Bool) → List ℕ → Place → Type 0
Found p cs (at k) = First p cs k
Found p cs nowhere = Never p cs

found_more : (p : List ℕ → Bool) (c : ℕ) (cs : List ℕ) (q : Place) → p (c ∷ cs) ≡ false → Found p cs q → Found p (c ∷ cs) (further q)
found_more p c cs (at k) f g = record { room = suc-le-suc g.room; holds = g.holds; before = before }
  where
    before : (j : ℕ) → j < suc k → p (drop j (c ∷ cs)) ≡ false
    before zero h = f
    before (suc j) h = g.before j (omega arith)
found_more p c cs nowhere f g = record { never = never }
  where
    never : (j : ℕ) → j ≤ suc (length cs) → p (drop j (c ∷ cs)) ≡ false
    never zero h = f
    never (suc j) h = g.never j (omega arith)

found : (p : List ℕ → Bool) (cs : List ℕ) → Found p cs (find p cs)
unfolding find
found p [] = go (p []) refl
  where
    go : (t : Bool) → p [] ≡ t → Found p [] (pick t (at 0) nowhere)
    go true e = record { room = zero-le; holds = e; before = λ j h. absurd (omega arith) }
    go false e = record { never = λ j h. let z : j ≡ 0 = omega arith in rw z e }
found p (c ∷ cs) = go (p (c ∷ cs)) refl (found p cs)
  where
    go : (t : Bool) → p (c ∷ cs) ≡ t → Found p cs (find p cs) → Found p (c ∷ cs) (pick t (at 0) (further (find p cs)))
    go true e g = record { room = zero-le; holds = e; before = λ j h. absurd (omega arith) }
    go false e g = found_more p c cs (find p cs) e g

-- THE FIRST PLACE: what is found is the first, and what is not found is nowhere
pub find_first : (p : List ℕ → Bool) (cs : List ℕ) {k : ℕ} → find p cs ≡ at k → First p cs k
find_first p cs e = subst (Found p cs) e (found p cs)

pub find_never : (p : List ℕ → Bool) (cs : List ℕ) → find p cs ≡ nowhere → Never p cs
find_never p cs e = subst (Found p cs) e (found p cs)

-- x and then n characters y are at the front
abbrev pub closing : (x y n : ℕ) → List ℕ → Bool
closing x y n [] = false
closing x y n (c ∷ cs) = and (eqb c x) (run y n cs)

-- what the first such place makes of the scan
abbrev pub closed : (n : ℕ) → List ℕ → Place → Got Bool
closed n cs (at k) = record { took = k + suc n; said = true }
closed n cs nowhere = record { took = length cs; said = false }

closed_more : (n c : ℕ) (cs : List ℕ) (q : Place) → after (closed n cs q) ≡ closed n (c ∷ cs) (further q)
closed_more n c cs (at k) = ap (λ (m : ℕ). record { took = m; said = true }) (omega arith)
closed_more n c cs nowhere = refl

-- THE FIRST CLOSING: the scan goes to the first x with n characters y after it, and past those; all is taken where there is none
pub first_with_find : (x y n : ℕ) (cs : List ℕ) → first_with x y n cs ≡ closed n cs (find (closing x y n) cs)
unfolding first_with find
first_with_find x y n [] = refl
first_with_find x y n (c ∷ cs) = go (and (eqb c x) (run y n cs)) (first_with_find x y n cs)
  where
    go : (t : Bool) → first_with x y n cs ≡ closed n cs (find (closing x y n) cs) → pick t (record { took = suc n; said = true }) (after (first_with x y n cs)) ≡ closed n (c ∷ cs) (pick t (at 0) (further (find (closing x y n) cs)))
    go true e = ap (λ (m : ℕ). record { took = m; said = true }) (omega arith)
    go false e = ap after e ∙ closed_more n c cs (find (closing x y n) cs)

-- A SEARCH BY TURNS, from depth d with k characters still to be skipped, over t, with `rest` after it. It ends well where the depth is 0. It ends badly at
-- the end of the text, or where a turn breaks off. Every character of t is used by one turn only; a turn sees the character after its own.
pub data Way (turn : ℕ → ℕ → ℕ → Turn) (rest : List ℕ) : (well : Bool) (k d : ℕ) → List ℕ → Type 0 where
  done : Way turn rest true 0 0 []
  over : {k d : ℕ} → rest ≡ [] → 0 < k + d → Way turn rest false k d []
  broken : {d c : ℕ} {cs : List ℕ} → rest ≡ c ∷ cs → turn (suc d) c (get_or cs 0 0) ≡ break_off → Way turn rest false 0 (suc d) []
  skipped : {well : Bool} {k d c : ℕ} {t : List ℕ} → Way turn rest well k d t → Way turn rest well (suc k) d (c ∷ t)
  turning : {well : Bool} {k d e c : ℕ} {t : List ℕ} → turn (suc d) c (get_or (t ++ rest) 0 0) ≡ taking k e → Way turn rest well k e t → Way turn rest well 0 (suc d) (c ∷ t)

over_scan : (turn : ℕ → ℕ → ℕ → Turn) (k d : ℕ) → 0 < k + d → scan turn k d [] ≡ record { took = 0; said = false }
unfolding scan
over_scan turn zero zero h = absurd (omega arith)
over_scan turn zero (suc d) h = refl
over_scan turn (suc k) d h = refl

done_scan : (turn : ℕ → ℕ → ℕ → Turn) (cs : List ℕ) → scan turn 0 0 cs ≡ record { took = 0; said = true }
unfolding scan
done_scan turn [] = refl
done_scan turn (c ∷ cs) = refl

-- what goes so is what the scan takes, and what it says
pub way_scan : {turn : ℕ → ℕ → ℕ → Turn} {rest : List ℕ} {well : Bool} {k d : ℕ} {t : List ℕ} → Way turn rest well k d t → scan turn k d (t ++ rest) ≡ record { took = length t; said = well }
unfolding scan
way_scan {turn} {rest} done = done_scan turn rest
way_scan {turn} {rest} (over {k} {d} e h) = rw e (over_scan turn k d h)
way_scan {turn} {rest} (broken {d} {c} {cs} e q) = rw e (ap (λ (u : Turn). turned u (λ k e. scan turn k e cs)) q)
way_scan (skipped g) = ap after (way_scan g)
way_scan {turn} {rest} (turning {k = k} {d} {e} {c} {t} q g) = ap (λ (u : Turn). turned u (λ k e. scan turn k e (t ++ rest))) q ∙ ap after (way_scan g)

-- and every scan goes some way
pub record Went (turn : ℕ → ℕ → ℕ → Turn) (k d : ℕ) (cs : List ℕ) : Type 0 where
  pub way : Way turn (drop (scan turn k d cs).took cs) (scan turn k d cs).said k d (take (scan turn k d cs).took cs)

abbrev WentAs : (ℕ → ℕ → ℕ → Turn) → ℕ → ℕ → List ℕ → Got Bool → Type 0
WentAs turn k d cs r = Way turn (drop r.took cs) r.said k d (take r.took cs)

by_turn : (turn : ℕ → ℕ → ℕ → Turn) (d c : ℕ) (cs : List ℕ) (u : Turn) → turn (suc d) c (get_or cs 0 0) ≡ u → ((k e : ℕ) → WentAs turn k e cs (scan turn k e cs))
    → WentAs turn 0 (suc d) (c ∷ cs) (turned u (λ k e. scan turn k e cs))
by_turn turn d c cs (taking k e) q ih = turning (ap (λ (l : List ℕ). turn (suc d) c (get_or l 0 0)) (take-append-drop (scan turn k e cs).took cs) ∙ q) (ih k e)
by_turn turn d c cs break_off q ih = broken refl q

went : (turn : ℕ → ℕ → ℕ → Turn) (cs : List ℕ) (k d : ℕ) → WentAs turn k d cs (scan turn k d cs)
unfolding scan
went turn [] zero zero = done
went turn [] zero (suc d) = over {k = 0} {d = suc d} refl (omega arith)
went turn [] (suc k) d = over {k = suc k} {d = d} refl (omega arith)
went turn (c ∷ cs) zero zero = done
went turn (c ∷ cs) zero (suc d) = by_turn turn d c cs (turn (suc d) c (get_or cs 0 0)) refl (λ k e. went turn cs k e)
went turn (c ∷ cs) (suc k) d = skipped (went turn cs k d)

pub scan_way : (turn : ℕ → ℕ → ℕ → Turn) (k d : ℕ) (cs : List ℕ) → Went turn k d cs
scan_way turn k d cs = record { way = went turn cs k d }

-- THE LONGEST RUN: every character taken is of p, and the next one is not, or there is none
pub while_all : (p : ℕ → Bool) (cs : List ℕ) → all p (take_while p cs) ≡ true
while_all p [] = refl
while_all p (c ∷ cs) = go (p c) refl (while_all p cs)
  where
    go : (t : Bool) → p c ≡ t → all p (take_while p cs) ≡ true → all p (pick t (c ∷ take_while p cs) []) ≡ true
    go true e h = rw (e, h)
    go false e h = refl

pub while_next : (p : ℕ → Bool) (cs : List ℕ) → (drop (length (take_while p cs)) cs ≡ []) ⊎ (p (get_or (drop (length (take_while p cs)) cs) 0 0) ≡ false)
while_next p [] = inl refl
while_next p (c ∷ cs) = go (p c) refl (while_next p cs)
  where
    go : (t : Bool) → p c ≡ t → (drop (length (take_while p cs)) cs ≡ []) ⊎ (p (get_or (drop (length (take_while p cs)) cs) 0 0) ≡ false)
        → (drop (length (pick t (c ∷ take_while p cs) [])) (c ∷ cs) ≡ []) ⊎ (p (get_or (drop (length (pick t (c ∷ take_while p cs) [])) (c ∷ cs)) 0 0) ≡ false)
    go true e h = h
    go false e h = inr e
