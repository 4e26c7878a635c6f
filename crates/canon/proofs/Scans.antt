-- The searches for an end are sound: where they find it, they have seen it.
use Prim.Native.Nat.{ℕ, zero, suc, ◌≤◌, ◌<◌, zero-le}
use mathlib.Core.Path.{◌≡◌, refl, sym, ap}
use mathlib.Core.List.{List, [], ◌∷◌, ◌++◌}
use mathlib.Core.Bool.{Bool, true, false}
use lib.ListN.{length, get_or, length-append}
use lib.Dec.{eqb}
use native.Mathlib.Omega.{arith}
use Rattle.basics.specs.Choice.{pick, and}
use Rattle.eaters.specs.Eat.{Got}
use Rattle.eaters.specs.Scan.{after, Turn, taking, break_off, close, turned, scan, run, first_with}
use Rattle.eaters.proofs.Fits.{fits_scan, fits_first_with}
use Rattle.canon.specs.Local.{Near, all, both, Sound}
use Rattle.canon.proofs.Sounds.{false_true, first_near}

-- what a search says: whether it found its end
abbrev pub found : Bool → Bool
found s = s

-- that a search ends at a character does not hang on the next one
abbrev pub Ends : (ℕ → ℕ → ℕ → Turn) → Type 0
Ends t = (d c e f : ℕ) → t (suc d) c e ≡ close → t (suc d) c f ≡ close

turned_none : {X : Type 0} (z : Turn) (f : ℕ → ℕ → Got Bool) → (turned z f).took ≤ 0 → (turned z f).said ≡ true → X
turned_none (taking k d) f h e = absurd (omega arith)
turned_none break_off f h e = false_true e

-- it finds its end and takes nothing only where it is at its end
scan_none : (t : ℕ → ℕ → ℕ → Turn) (k d : ℕ) (cs : List ℕ) → (scan t k d cs).took ≤ 0 → (scan t k d cs).said ≡ true → (k ≡ 0) × (d ≡ 0)
unfolding scan
scan_none t zero zero [] h e = (refl, refl)
scan_none t zero (suc d) [] h e = false_true e
scan_none t (suc k) d [] h e = false_true e
scan_none t zero zero (c ∷ cs) h e = (refl, refl)
scan_none t zero (suc d) (c ∷ cs) h e = turned_none (t (suc d) c (get_or cs 0 0)) (λ k e. scan t k e cs) h e
scan_none t (suc k) d (c ∷ cs) h e = absurd (omega arith)

scan_done : (t : ℕ → ℕ → ℕ → Turn) (cs : List ℕ) → scan t 0 0 cs ≡ record { took = 0; said = true }
unfolding scan
scan_done t [] = refl
scan_done t (c ∷ cs) = refl

module _ (t : ℕ → ℕ → ℕ → Turn) (en : Ends t) (a b : List ℕ) where
  scan_at : (k d : ℕ) → (scan t k d a).took ≤ 0 → (scan t k d a).said ≡ true → scan t k d b ≡ scan t k d a
  scan_at k d h e = rw ((scan_none t k d a h e).0, (scan_none t k d a h e).1, scan_done t a, scan_done t b)

  -- the last character
  last_local : (d c : ℕ) (z : Turn) → t (suc d) c (get_or a 0 0) ≡ z → (turned z (λ k e. scan t k e a)).took ≤ 1 → (turned z (λ k e. scan t k e a)).said ≡ true
      → turned (t (suc d) c (get_or b 0 0)) (λ k e. scan t k e b) ≡ turned z (λ k e. scan t k e a)
  last_local d c (taking k e) q h s =
      let (k0, e0) = scan_none t k e a (omega arith) s in
      let q' : t (suc d) c (get_or a 0 0) ≡ close = rw (k0, e0) at q in
      rw (k0, e0, en d c (get_or a 0 0) (get_or b 0 0) q', scan_done t a, scan_done t b)
  last_local d c break_off q h s = false_true s

  turned_local : (u : List ℕ) (z : Turn) → ((k d : ℕ) → (scan t k d (u ++ a)).took ≤ length u → (scan t k d (u ++ a)).said ≡ true → scan t k d (u ++ b) ≡ scan t k d (u ++ a))
      → (turned z (λ k e. scan t k e (u ++ a))).took ≤ suc (length u) → (turned z (λ k e. scan t k e (u ++ a))).said ≡ true
      → turned z (λ k e. scan t k e (u ++ b)) ≡ turned z (λ k e. scan t k e (u ++ a))
  turned_local u (taking k d) r h s = ap after (r k d (omega arith) s)
  turned_local u break_off r h s = false_true s

  -- where it finds its end, nothing past it is seen
  scan_local : (u : List ℕ) (k d : ℕ) → (scan t k d (u ++ a)).took ≤ length u → (scan t k d (u ++ a)).said ≡ true → scan t k d (u ++ b) ≡ scan t k d (u ++ a)
  unfolding scan
  scan_local [] k d h s = scan_at k d h s
  scan_local (c ∷ u) zero zero h s = refl
  scan_local (c ∷ []) zero (suc d) h s = last_local d c (t (suc d) c (get_or a 0 0)) refl h s
  scan_local (c ∷ x ∷ u) zero (suc d) h s = turned_local (x ∷ u) (t (suc d) c x) (scan_local (x ∷ u)) h s
  scan_local (c ∷ u) (suc k) d h s = ap after (scan_local u k d (omega arith) s)

-- before two characters that are the same
turned_near : (z : Turn) (n : ℕ) (f g : ℕ → ℕ → Got Bool) → ((k d : ℕ) → (f k d).took ≤ n → g k d ≡ f k d) → (turned z f).took ≤ suc n → turned z g ≡ turned z f
turned_near (taking k d) n f g r h = ap after (r k d (omega arith))
turned_near break_off n f g r h = refl

turned_still : (z : Turn) (f g : ℕ → ℕ → Got Bool) → (turned z f).took ≤ 0 → turned z g ≡ turned z f
turned_still (taking k d) f g h = absurd (omega arith)
turned_still break_off f g h = refl

scan_near : (t : ℕ → ℕ → ℕ → Turn) (u a b : List ℕ) → Near 2 a b → (k d : ℕ) → (scan t k d (u ++ a)).took ≤ length u → scan t k d (u ++ b) ≡ scan t k d (u ++ a)
unfolding scan
scan_near t [] a b all k d h = refl
scan_near t [] a b (both {a = x} {b = y} l) zero zero h = refl
scan_near t [] a b (both {c = c} {a = x} {b = y} l) zero (suc d) h = rw (first_near [] x y l) (turned_still (t (suc d) c (get_or x 0 0)) (λ k e. scan t k e x) (λ k e. scan t k e y) h)
scan_near t [] a b (both l) (suc k) d h = absurd (omega arith)
scan_near t (c ∷ u) a b l zero zero h = refl
scan_near t (c ∷ u) a b l zero (suc d) h =
    rw (first_near u a b l) (turned_near (t (suc d) c (get_or (u ++ a) 0 0)) (length u) (λ k e. scan t k e (u ++ a)) (λ k e. scan t k e (u ++ b)) (λ k e. scan_near t u a b l k e) h)
scan_near t (c ∷ u) a b l (suc k) d h = ap after (scan_near t u a b l k d (omega arith))

pub sound_scan : (t : ℕ → ℕ → ℕ → Turn) (k d : ℕ) {n : ℕ} → Ends t → Sound n found (scan t k d)
sound_scan t k d en =
    record {
      fits = λ cs h. (fits_scan t k d).fits cs zero-le;
      near = λ u a b l h. scan_near t u a b l k d h;
      local = λ u a b l h s. scan_local t en a b u k d h s;
    }

-- a search that has an end to find takes some character where it finds it
pub scan_some : (t : ℕ → ℕ → ℕ → Turn) (d : ℕ) (cs : List ℕ) → (scan t 0 (suc d) cs).said ≡ true → 1 ≤ (scan t 0 (suc d) cs).took
scan_some t d cs e = go (scan t 0 (suc d) cs).took refl
  where
    go : (n : ℕ) → (scan t 0 (suc d) cs).took ≡ n → 1 ≤ n
    go zero q = absurd (omega (arith, (scan_none t 0 (suc d) cs (omega arith) e).1))
    go (suc n) q = omega arith

-- the first x with n characters y after it
run_local : (y n : ℕ) (u a b : List ℕ) → n ≤ length u → run y n (u ++ b) ≡ run y n (u ++ a)
run_local y zero u a b h = refl
run_local y (suc n) [] a b h = absurd (omega arith)
run_local y (suc n) (c ∷ u) a b h = ap (and (eqb c y)) (run_local y n u a b (omega arith))

-- nothing is near to nothing alone
none_near : (a b : List ℕ) → Near 2 a b → length a ≡ 0 → b ≡ a
none_near a b all h = refl
none_near a b (both l) h = absurd (omega arith)

module _ (x y n : ℕ) where
  -- one character: it ends there, or goes on
  abbrev turning : Bool → Got Bool → Got Bool
  turning z r = pick z (record { took = suc n; said = true }) (after r)

  first_some : (cs : List ℕ) → (first_with x y n cs).said ≡ true → n < (first_with x y n cs).took
  unfolding first_with
  first_some [] e = false_true e
  first_some (c ∷ cs) e = go (and (eqb c x) (run y n cs)) e (first_some cs)
    where
      go : (z : Bool) → (turning z (first_with x y n cs)).said ≡ true → ((first_with x y n cs).said ≡ true → n < (first_with x y n cs).took) → n < (turning z (first_with x y n cs)).took
      go true e r = omega arith
      go false e r = omega (arith, r e)

  first_local : (u a b : List ℕ) → (first_with x y n (u ++ a)).took ≤ length u → (first_with x y n (u ++ a)).said ≡ true → first_with x y n (u ++ b) ≡ first_with x y n (u ++ a)
  unfolding first_with
  first_local [] a b h s = absurd (omega (arith, first_some a s))
  first_local (c ∷ u) a b h s =
      rw (run_local y n u a b (omega (arith, first_some (c ∷ (u ++ a)) s))) (go (and (eqb c x) (run y n (u ++ a))) h s (first_local u a b))
    where
      go : (z : Bool) → (turning z (first_with x y n (u ++ a))).took ≤ suc (length u) → (turning z (first_with x y n (u ++ a))).said ≡ true
          → ((first_with x y n (u ++ a)).took ≤ length u → (first_with x y n (u ++ a)).said ≡ true → first_with x y n (u ++ b) ≡ first_with x y n (u ++ a))
          → turning z (first_with x y n (u ++ b)) ≡ turning z (first_with x y n (u ++ a))
      go true h s r = refl
      go false h s r = ap after (r (omega arith) s)

  -- unless it finds its end, it takes all
  first_all : (cs : List ℕ) → (first_with x y n cs).said ≡ false → (first_with x y n cs).took ≡ length cs
  unfolding first_with
  first_all [] e = refl
  first_all (c ∷ cs) e = go (and (eqb c x) (run y n cs)) e (first_all cs)
    where
      go : (z : Bool) → (turning z (first_with x y n cs)).said ≡ false → ((first_with x y n cs).said ≡ false → (first_with x y n cs).took ≡ length cs) → (turning z (first_with x y n cs)).took ≡ suc (length cs)
      go true e r = false_true (sym e)
      go false e r = ap suc (r e)

  with_near : (u a b : List ℕ) → Near 2 a b → (first_with x y n (u ++ a)).took ≤ length u → first_with x y n (u ++ b) ≡ first_with x y n (u ++ a)
  with_near u a b l h = go (first_with x y n (u ++ a)).said refl
    where
      go : (s : Bool) → (first_with x y n (u ++ a)).said ≡ s → first_with x y n (u ++ b) ≡ first_with x y n (u ++ a)
      go true e = first_local u a b h e
      go false e = ap (λ (z : List ℕ). first_with x y n (u ++ z)) (none_near a b l (omega (arith, first_all (u ++ a) e, length-append u a)))

  pub sound_first_with : {k : ℕ} → Sound k found (first_with x y n)
  sound_first_with = record { fits = λ cs h. (fits_first_with x y n).fits cs zero-le; near = with_near; local = λ u a b l h s. first_local u a b h s }
