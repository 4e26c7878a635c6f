-- An eater fits: it takes no more characters than there are, if n of them are there. A law for each word of the vocabulary.
use Prim.Native.Nat.{ℕ, zero, suc, ◌≤◌, zero-le, suc-le-suc}
use mathlib.Core.Path.{◌≡◌, sym, ◌∙◌}
use mathlib.Core.List.{List, [], ◌∷◌}
use mathlib.Core.Bool.{Bool, true, false}
use lib.Dec.{eqb}
use lib.ListN.{length, get_or, drop, length-take, length-drop}
use native.Mathlib.Omega.{arith}
use Rattle.basics.specs.Choice.{and}
use Rattle.basics.proofs.Choices.{and_2, by_pick}
use Rattle.eaters.specs.Eat.{Got, Eater, give, eat, eat_any, take_while, while, take_most, while_most, ◌>>=◌, ◌>>◌, texted, choose}
use Rattle.eaters.specs.Look.{if_at, if_two, if_eat, begins, if_begins}
use Rattle.eaters.specs.Scan.{Turn, taking, break_off, turned, scan, run, first_with}

pub record Fits {A : Type 0} (n : ℕ) (m : Eater A) : Type 0 where
  pub fits : (cs : List ℕ) → n ≤ length cs → (m cs).took ≤ length cs

pub fits_give : {A : Type 0} (x : A) → Fits 0 (give x)
unfolding give
fits_give x = record { fits = λ cs h. omega arith }

pub fits_eat : (k : ℕ) → Fits k (eat k)
unfolding eat
fits_eat k = record { fits = λ cs h. h }

pub fits_any : Fits 0 eat_any
unfolding eat_any
fits_any = record { fits = λ cs h. omega (arith, length-take 1 cs) }

takes : (p : ℕ → Bool) (cs : List ℕ) → length (take_while p cs) ≤ length cs
takes p [] = omega arith
takes p (c ∷ cs) = by_pick (λ (l : List ℕ). length l ≤ suc (length cs)) (p c) _ _ (λ t. suc-le-suc (takes p cs)) (λ t. zero-le)

pub fits_while : (p : ℕ → Bool) → Fits 0 (while p)
unfolding while
fits_while p = record { fits = λ cs h. takes p cs }

takes_most : (n : ℕ) (p : ℕ → Bool) (cs : List ℕ) → length (take_most n p cs) ≤ length cs
takes_most zero p cs = omega arith
takes_most (suc n) p [] = omega arith
takes_most (suc n) p (c ∷ cs) = by_pick (λ (l : List ℕ). length l ≤ suc (length cs)) (p c) _ _ (λ t. suc-le-suc (takes_most n p cs)) (λ t. zero-le)

pub fits_while_most : (n : ℕ) (p : ℕ → Bool) → Fits 0 (while_most n p)
unfolding while_most
fits_while_most n p = record { fits = λ cs h. takes_most n p cs }

pub fits_bind : {A B : Type 0} {n : ℕ} {m : Eater A} {f : A → Eater B} → Fits n m → ((x : A) → Fits 0 (f x)) → Fits n (m >>= f)
unfolding ◌>>=◌
fits_bind {m = m} g h = record { fits = λ cs k. omega (arith, g.fits cs k, (h (m cs).said).fits (drop (m cs).took cs) zero-le, length-drop (m cs).took cs) }

pub fits_then : {A B : Type 0} {n : ℕ} {m : Eater A} {k : Eater B} → Fits n m → Fits 0 k → Fits n (m >> k)
fits_then {A} g h = fits_bind g (λ (x : A). h)

pub fits_texted : {A : Type 0} {n : ℕ} {m : Eater A} → Fits n m → Fits n (texted m)
unfolding texted
fits_texted g = record { fits = λ cs h. g.fits cs h }

pub fits_choose : {A : Type 0} {n : ℕ} {x y : Eater A} (b : Bool) → Fits n x → Fits n y → Fits n (choose b x y)
unfolding choose
fits_choose {A} {n} {x} {y} b g h = record { fits = λ cs k. by_pick (λ (r : Got A). r.took ≤ length cs) b (x cs) (y cs) (λ t. g.fits cs k) (λ t. h.fits cs k) }

pub fits_if_at : {A : Type 0} {n : ℕ} {x y : Eater A} (p : ℕ → Bool) → Fits n x → Fits n y → Fits n (if_at p x y)
unfolding if_at
fits_if_at {A} {n} {x} {y} p g h = record { fits = λ cs k. by_pick (λ (r : Got A). r.took ≤ length cs) (p (get_or cs 0 0)) (x cs) (y cs) (λ t. g.fits cs k) (λ t. h.fits cs k) }

-- what a test that fails at the end has seen is there
pub there : (p : ℕ → Bool) → p 0 ≡ false → (cs : List ℕ) (k : ℕ) → p (get_or cs k 0) ≡ true → suc k ≤ length cs
there p z [] k t = let e : ◌≡◌ {A = Bool} true false = sym t ∙ z in let n : ◌≡◌ {A = ℕ} 0 1 = cc in absurd (omega arith)
there p z (c ∷ cs) zero t = omega arith
there p z (c ∷ cs) (suc k) t = suc-le-suc (there p z cs k t)

pub fits_if_eat : {A : Type 0} {x y : Eater A} (p : ℕ → Bool) → p 0 ≡ false → Fits 0 x → Fits 0 y → Fits 0 (if_eat p x y)
unfolding if_at
fits_if_eat {A} {x} {y} p z g h =
    record { fits = λ cs k. by_pick (λ (r : Got A). r.took ≤ length cs) (p (get_or cs 0 0)) ((eat 1 >> x) cs) (y cs) (λ t. (fits_then (fits_eat 1) g).fits cs (there p z cs 0 t)) (λ t. h.fits cs k) }

pub fits_if_two : {A : Type 0} {x y : Eater A} (p q : ℕ → Bool) → q 0 ≡ false → Fits 2 x → Fits 0 y → Fits 0 (if_two p q x y)
unfolding if_two
fits_if_two {A} {x} {y} p q z g h =
    record { fits = λ cs k. by_pick (λ (r : Got A). r.took ≤ length cs) (and (p (get_or cs 0 0)) (q (get_or cs 1 0))) (x cs) (y cs) (λ t. g.fits cs (there q z cs 1 (and_2 (p (get_or cs 0 0)) _ t))) (λ t. h.fits cs k) }

-- an eater that fits always fits if some are there
pub fits_more : {A : Type 0} (n : ℕ) {m : Eater A} → Fits 0 m → Fits n m
fits_more n g = record { fits = λ cs h. g.fits cs zero-le }

pub begins_long : (l cs : List ℕ) → begins l cs ≡ true → length l ≤ length cs
begins_long [] cs t = zero-le
begins_long (x ∷ l) [] t = let n : ◌≡◌ {A = ℕ} 0 1 = cc in absurd (omega arith)
begins_long (x ∷ l) (c ∷ cs) t = suc-le-suc (begins_long l cs (and_2 (eqb c x) _ t))

pub fits_if_begins : {A : Type 0} {x y : Eater A} (l : List ℕ) → Fits (length l) x → Fits 0 y → Fits 0 (if_begins l x y)
unfolding if_begins
fits_if_begins {A} {x} {y} l g h =
    record { fits = λ cs k. by_pick (λ (r : Got A). r.took ≤ length cs) (begins l cs) (x cs) (y cs) (λ t. g.fits cs (begins_long l cs t)) (λ t. h.fits cs k) }

-- searches for an end
turns : (n : ℕ) (u : Turn) (f : ℕ → ℕ → Got Bool) → ((k d : ℕ) → (f k d).took ≤ n) → (turned u f).took ≤ suc n
turns n (taking k d) f h = suc-le-suc (h k d)
turns n break_off f h = zero-le

scans : (t : ℕ → ℕ → ℕ → Turn) (cs : List ℕ) (k d : ℕ) → (scan t k d cs).took ≤ length cs
unfolding scan
scans t [] zero zero = zero-le
scans t [] zero (suc d) = zero-le
scans t [] (suc k) d = zero-le
scans t (c ∷ cs) zero zero = zero-le
scans t (c ∷ cs) zero (suc d) = turns (length cs) (t (suc d) c (get_or cs 0 0)) (λ k e. scan t k e cs) (λ k e. scans t cs k e)
scans t (c ∷ cs) (suc k) d = suc-le-suc (scans t cs k d)

pub fits_scan : (t : ℕ → ℕ → ℕ → Turn) (k d : ℕ) → Fits 0 (scan t k d)
fits_scan t k d = record { fits = λ cs h. scans t cs k d }

pub run_long : (y n : ℕ) (cs : List ℕ) → run y n cs ≡ true → n ≤ length cs
run_long y zero cs t = zero-le
run_long y (suc n) [] t = let z : ◌≡◌ {A = ℕ} 0 1 = cc in absurd (omega arith)
run_long y (suc n) (c ∷ cs) t = suc-le-suc (run_long y n cs (and_2 (eqb c y) _ t))

withs : (x y n : ℕ) (cs : List ℕ) → (first_with x y n cs).took ≤ length cs
unfolding first_with
withs x y n [] = zero-le
withs x y n (c ∷ cs) =
    by_pick (λ (r : Got Bool). r.took ≤ suc (length cs)) (and (eqb c x) (run y n cs)) _ _ (λ t. suc-le-suc (run_long y n cs (and_2 (eqb c x) _ t))) (λ t. suc-le-suc (withs x y n cs))

pub fits_first_with : (x y n : ℕ) → Fits 0 (first_with x y n)
fits_first_with x y n = record { fits = λ cs h. withs x y n cs }

-- an eater that needs n characters fits where more are there
pub fits_wider : {A : Type 0} {n k : ℕ} {m : Eater A} → n ≤ k → Fits n m → Fits k m
fits_wider l g = record { fits = λ cs h. g.fits cs (omega arith) }

-- a test that fails at the end sees a character
pub fits_if_at_one : {A : Type 0} {x y : Eater A} (p : ℕ → Bool) → p 0 ≡ false → Fits 1 x → Fits 0 y → Fits 0 (if_at p x y)
unfolding if_at
fits_if_at_one {A} {x} {y} p z g h =
    record { fits = λ cs k. by_pick (λ (r : Got A). r.took ≤ length cs) (p (get_or cs 0 0)) (x cs) (y cs) (λ t. g.fits cs (there p z cs 0 t)) (λ t. h.fits cs k) }
