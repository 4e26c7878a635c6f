-- Each word of the vocabulary makes a sound scan of sound ones.
use Prim.Native.Nat.{ℕ, suc, ◌+◌, ◌≤◌, zero-le}
use mathlib.Core.Path.{◌≡◌, refl, sym, ap, subst, ◌∙◌}
use mathlib.Core.List.{List, [], ◌∷◌, ◌++◌}
use mathlib.Core.Bool.{Bool, true, false, not}
use lib.ListN.{length, get_or, drop, length-drop}
use lib.Seq.{drop-append-le, take-append-le}
use lib.Dec.{eqb, T}
use borrow.Author.Tests.{eqb-true}
use native.Mathlib.Omega.{arith}
use Rattle.basics.specs.Choice.{pick, and, or}
use Rattle.basics.specs.Tests.{is_in}
use Rattle.eaters.specs.Eat.{Got, Eater, give, eat, eat_any, take_while, while, ◌>>=◌, Read, texted, choose}
use Rattle.eaters.specs.Look.{if_at, if_two, if_eat}
use Rattle.eaters.proofs.Fits.{Fits, fits_any, fits_while, fits_bind, fits_choose, fits_if_at_one, fits_if_two}
use Rattle.token.specs.Names.{'newline'}
use Rattle.canon.specs.Local.{stills, Near, all, both, Like, ends, gap, same, Sound}

pub false_true : {X : Type 0} → false ≡ true → X
false_true e = absurd (subst (λ (b : Bool). T (not b)) e tt)

-- a test that holds of none of a list
abbrev pub none : (ℕ → Bool) → List ℕ → Bool
none p [] = true
none p (c ∷ l) = and (not (p c)) (none p l)

pub none_at : (p : ℕ → Bool) (l : List ℕ) (c : ℕ) → none p l ≡ true → is_in l c ≡ true → p c ≡ false
none_at p [] c h i = false_true i
none_at p (x ∷ l) c h i = go (p x) (eqb c x) refl refl h i (none_at p l c)
  where
    go : (s t : Bool) → p x ≡ s → eqb c x ≡ t → and (not s) (none p l) ≡ true → or t (is_in l c) ≡ true → (none p l ≡ true → is_in l c ≡ true → p c ≡ false) → p c ≡ false
    go true t e f h i r = false_true h
    go false true e f h i r = rw (eqb-true c x f) e
    go false false e f h i r = r h i

-- a test that the end fails, and, where something good is said, everything that trivia begins with
pub record Quiet {A : Type 0} (g : A → Bool) (p : ℕ → Bool) : Type 0 where
  pub end : p 0 ≡ false
  pub still : (x : A) → g x ≡ true → (c : ℕ) → is_in stills c ≡ true → p c ≡ false

pub quiet : {A : Type 0} {g : A → Bool} (p : ℕ → Bool) → none p stills ≡ true → Quiet g p
quiet p h = record { end = none_at p stills 0 h refl; still = λ x k c i. none_at p stills c h i }

pub quiet_or : {A : Type 0} {g : A → Bool} {p q : ℕ → Bool} → Quiet g p → Quiet g q → Quiet g (λ c. or (p c) (q c))
quiet_or hp hq = record { end = rw hp.end hq.end; still = λ x k c i. rw (hp.still x k c i) (hq.still x k c i) }

-- what a test says of the next character, and of the one after it
see : (p : ℕ → Bool) → ((c : ℕ) → is_in stills c ≡ true → p c ≡ false) → (u a b : List ℕ) {n : ℕ} → Like (suc n) a b → p (get_or (u ++ b) 0 0) ≡ p (get_or (u ++ a) 0 0)
see p q [] a b ends = refl
see p q [] a b (gap h) = q 'newline' refl ∙ sym (q (get_or a 0 0) h)
see p q [] a b (same l) = refl
see p q (c ∷ u) a b l = refl

see_two : (p q : ℕ → Bool) → ((c : ℕ) → is_in stills c ≡ true → p c ≡ false) → ((c : ℕ) → is_in stills c ≡ true → q c ≡ false) → (u a b : List ℕ) → Like 2 a b
    → and (p (get_or (u ++ b) 0 0)) (q (get_or (u ++ b) 1 0)) ≡ and (p (get_or (u ++ a) 0 0)) (q (get_or (u ++ a) 1 0))
see_two p q hp hq [] a b ends = refl
see_two p q hp hq [] a b (gap h) = rw (hp 'newline' refl, hp (get_or a 0 0) h)
see_two p q hp hq [] a b (same {c = c} {a = x} {b = y} l) = ap (and (p c)) (see q hq [] x y l)
see_two p q hp hq (c ∷ u) a b l = ap (and (p c)) (see q hq u a b l)

-- the next characters, where two are the same
pub first_near : {n : ℕ} (u a b : List ℕ) → Near (suc n) a b → get_or (u ++ b) 0 0 ≡ get_or (u ++ a) 0 0
first_near [] a b all = refl
first_near [] a b (both l) = refl
first_near (c ∷ u) a b l = refl

second_near : (u a b : List ℕ) → Near 2 a b → get_or (u ++ b) 1 0 ≡ get_or (u ++ a) 1 0
second_near [] a b all = refl
second_near [] a b (both {a = x} {b = y} l) = first_near [] x y l
second_near (c ∷ u) a b l = first_near u a b l

-- every word will do
abbrev pub always : {A : Type 0} → A → Bool
always x = true

-- a choice is the same where both choices are
pick_same : {A : Type 0} (P : Got A → Type 0) (s : Bool) (x y v w : Got A) → (P x → v ≡ x) → (P y → w ≡ y) → P (pick s x y) → pick s v w ≡ pick s x y
pick_same P true x y v w f g h = f h
pick_same P false x y v w f g h = g h

module _ {A : Type 0} {g : A → Bool} where
  fitting : {n : ℕ} {m : Eater A} → Sound n g m → Fits n m
  fitting s = record { fits = s.fits }

  -- a scan that is sound where n characters are there is so where more are
  pub sound_wider : {n k : ℕ} {m : Eater A} → n ≤ k → Sound n g m → Sound k g m
  sound_wider e s = record { fits = λ cs h. s.fits cs (omega arith); near = s.near; local = s.local }

  pub sound_more : {n : ℕ} {m : Eater A} → Sound 0 g m → Sound n g m
  sound_more s = sound_wider zero-le s

  pub sound_give : {n : ℕ} (x : A) → Sound n g (give x)
  unfolding give
  sound_give x = record { fits = λ cs h. omega arith; near = λ u a b l h. refl; local = λ u a b l h k. refl }

  pick_near : {n k : ℕ} {this that : Eater A} → Sound n g this → Sound k g that → (s : Bool) (u a b : List ℕ) → Near 2 a b
      → (pick s (this (u ++ a)) (that (u ++ a))).took ≤ length u → pick s (this (u ++ b)) (that (u ++ b)) ≡ pick s (this (u ++ a)) (that (u ++ a))
  pick_near x y s u a b l h = pick_same (λ r. r.took ≤ length u) s _ _ _ _ (x.near u a b l) (y.near u a b l) h

  pick_local : {n k : ℕ} {this that : Eater A} → Sound n g this → Sound k g that → (s : Bool) (u a b : List ℕ) → Like 2 a b
      → (pick s (this (u ++ a)) (that (u ++ a))).took ≤ length u → g (pick s (this (u ++ a)) (that (u ++ a))).said ≡ true
      → pick s (this (u ++ b)) (that (u ++ b)) ≡ pick s (this (u ++ a)) (that (u ++ a))
  pick_local x y s u a b l h k =
      pick_same (λ r. (r.took ≤ length u) × (g r.said ≡ true)) s _ _ _ _ (λ e. x.local u a b l e.0 e.1) (λ e. y.local u a b l e.0 e.1) (h, k)

  pub sound_choose : {n : ℕ} {this that : Eater A} (s : Bool) → Sound n g this → Sound n g that → Sound n g (choose s this that)
  unfolding choose
  sound_choose s x y = record { fits = (fits_choose s (fitting x) (fitting y)).fits; near = pick_near x y s; local = pick_local x y s }

  pub sound_if_at : {n : ℕ} {this that : Eater A} (p : ℕ → Bool) → Quiet g p → Sound 1 g this → Sound 0 g that → Sound n g (if_at p this that)
  unfolding if_at
  sound_if_at p q x y =
      record {
        fits = λ cs h. (fits_if_at_one p q.end (fitting x) (fitting y)).fits cs zero-le;
        near = λ u a b l h. rw (first_near u a b l) (pick_near x y (p (get_or (u ++ a) 0 0)) u a b l h);
        local = λ u a b l h k. rw (see p (q.still _ k) u a b l) (pick_local x y (p (get_or (u ++ a) 0 0)) u a b l h k);
      }

  two_near : {this that : Eater A} (p q : ℕ → Bool) → Sound 2 g this → Sound 0 g that → (u a b : List ℕ) → Near 2 a b
      → (if_two p q this that (u ++ a)).took ≤ length u → if_two p q this that (u ++ b) ≡ if_two p q this that (u ++ a)
  unfolding if_two
  two_near p q x y u a b l h = rw (first_near u a b l, second_near u a b l) (pick_near x y (and (p (get_or (u ++ a) 0 0)) (q (get_or (u ++ a) 1 0))) u a b l h)

  pub sound_if_two : {n : ℕ} {this that : Eater A} (p q : ℕ → Bool) → Quiet g p → Quiet g q → Sound 2 g this → Sound 0 g that → Sound n g (if_two p q this that)
  unfolding if_two
  sound_if_two p q hp hq x y =
      record {
        fits = λ cs h. (fits_if_two p q hq.end (fitting x) (fitting y)).fits cs zero-le;
        near = two_near p q x y;
        local = λ u a b l h k.
            rw (see_two p q (hp.still _ k) (hq.still _ k) u a b l) (pick_local x y (and (p (get_or (u ++ a) 0 0)) (q (get_or (u ++ a) 1 0))) u a b l h k);
      }

  -- two characters of which the first may be any, before scans that take some where they are good
  pub sound_if_second : {n : ℕ} {this that : Eater A} (p q : ℕ → Bool) → Quiet g q → Sound 2 g this → Sound 0 g that
      → ((cs : List ℕ) → g (this cs).said ≡ true → 1 ≤ (this cs).took) → ((cs : List ℕ) → g (that cs).said ≡ true → 1 ≤ (that cs).took) → Sound n g (if_two p q this that)
  unfolding if_two
  sound_if_second {n} {this} {that} p q hq x y sx sy =
      record { fits = λ cs h. (fits_if_two p q hq.end (fitting x) (fitting y)).fits cs zero-le; near = two_near p q x y; local = at }
    where
      some : (s : Bool) (cs : List ℕ) → g (pick s (this cs) (that cs)).said ≡ true → 1 ≤ (pick s (this cs) (that cs)).took
      some true cs k = sx cs k
      some false cs k = sy cs k

      at : (u a b : List ℕ) → Like 2 a b → (if_two p q this that (u ++ a)).took ≤ length u → g (if_two p q this that (u ++ a)).said ≡ true → if_two p q this that (u ++ b) ≡ if_two p q this that (u ++ a)
      at [] a b l h k = absurd (omega (arith, some (and (p (get_or a 0 0)) (q (get_or a 1 0))) a k))
      at (c ∷ u) a b l h k = rw (see q (hq.still _ k) u a b l) (pick_local x y (and (p c) (q (get_or (u ++ a) 0 0))) (c ∷ u) a b l h k)

  -- the text that is taken
  pub sound_texted : {n : ℕ} {m : Eater A} → Sound n g m → Sound n (λ (r : Read A). g r.said) (texted m)
  unfolding texted
  sound_texted {n} {m} s =
      record {
        fits = s.fits;
        near = λ u a b l h. rw (s.near u a b l h, take-append-le (m (u ++ a)).took u b h, take-append-le (m (u ++ a)).took u a h);
        local = λ u a b l h k. rw (s.local u a b l h k, take-append-le (m (u ++ a)).took u b h, take-append-le (m (u ++ a)).took u a h);
      }

pub sound_eat : (k : ℕ) {g : Unit {0} → Bool} → Sound k g (eat k)
unfolding eat
sound_eat k = record { fits = λ cs h. h; near = λ u a b l h. refl; local = λ u a b l h k. refl }

-- one character, where nothing that is said is good
pub sound_any : {n : ℕ} {g : Unit {0} → Bool} → g tt ≡ false → Sound n g eat_any
unfolding eat_any
sound_any z = record { fits = λ cs h. fits_any.fits cs zero-le; near = at; local = λ u a b l h k. false_true (sym z ∙ k) }
  where
    at : (u a b : List ℕ) → Near 2 a b → (eat_any (u ++ a)).took ≤ length u → eat_any (u ++ b) ≡ eat_any (u ++ a)
    at [] a b all h = refl
    at [] a b (both l) h = refl
    at (c ∷ u) a b l h = refl

-- a run is the same before what goes on alike
runs_same : (p : ℕ → Bool) (u a b : List ℕ) → (length (take_while p a) ≤ 0 → take_while p b ≡ take_while p a)
    → length (take_while p (u ++ a)) ≤ length u → take_while p (u ++ b) ≡ take_while p (u ++ a)
runs_same p [] a b f h = f h
runs_same p (c ∷ u) a b f h = go (p c) h (runs_same p u a b f)
  where
    go : (s : Bool) → length (pick s (c ∷ take_while p (u ++ a)) []) ≤ suc (length u) → (length (take_while p (u ++ a)) ≤ length u → take_while p (u ++ b) ≡ take_while p (u ++ a))
        → pick s (c ∷ take_while p (u ++ b)) [] ≡ pick s (c ∷ take_while p (u ++ a)) []
    go true h r = ap (λ (t : List ℕ). c ∷ t) (r (omega arith))
    go false h r = refl

-- no run before the same character
run_none : (p : ℕ → Bool) (c : ℕ) (a b : List ℕ) → length (take_while p (c ∷ a)) ≤ 0 → take_while p (c ∷ b) ≡ take_while p (c ∷ a)
run_none p c a b h = go (p c) h
  where
    go : (s : Bool) → length (pick s (c ∷ take_while p a) []) ≤ 0 → pick s (c ∷ take_while p b) [] ≡ pick s (c ∷ take_while p a) []
    go true h = absurd (omega arith)
    go false h = refl

nil : (l : List ℕ) → length l ≤ 0 → l ≡ []
nil [] h = refl
nil (x ∷ l) h = absurd (omega arith)

none_near : (p : ℕ → Bool) (a b : List ℕ) → Near 2 a b → length (take_while p a) ≤ 0 → take_while p b ≡ take_while p a
none_near p a b all h = refl
none_near p a b (both {c = c} {a = x} {b = y} l) h = run_none p c x y h

none_local : (p : ℕ → Bool) → p 'newline' ≡ false → (a b : List ℕ) → Like 2 a b → length (take_while p a) ≤ 0 → take_while p b ≡ take_while p a
none_local p q a b ends h = refl
none_local p q a b (gap {b = y} k) h = rw q (sym (nil (take_while p a) h))
none_local p q a b (same {c = c} {a = x} {b = y} l) h = run_none p c x y h

abbrev run : List ℕ → Got (List ℕ)
run t = record { took = length t; said = t }

-- a newline has to end the run, where something good is said
pub sound_run : (p : ℕ → Bool) {n : ℕ} {g : List ℕ → Bool} → ((t : List ℕ) → g t ≡ true → p 'newline' ≡ false) → Sound n g (while p)
unfolding while
sound_run p q =
    record {
      fits = λ cs h. (fits_while p).fits cs zero-le;
      near = λ u a b l h. ap run (runs_same p u a b (none_near p a b l) h);
      local = λ u a b l h k. ap run (runs_same p u a b (none_local p (q _ k) a b l) h);
    }

pub sound_while : (p : ℕ → Bool) {n : ℕ} {g : List ℕ → Bool} → p 'newline' ≡ false → Sound n g (while p)
sound_while p q = sound_run p (λ t k. q)

module _ {A B : Type 0} where
  -- one scan after another, where each does the same
  bind_same : (m : Eater A) (f : A → Eater B) (u a b : List ℕ) → ((m >>= f) (u ++ a)).took ≤ length u → m (u ++ b) ≡ m (u ++ a)
      → ((v : List ℕ) → f (m (u ++ a)).said (drop (m (u ++ a)).took (u ++ a)) ≡ f (m (u ++ a)).said (v ++ a) → (f (m (u ++ a)).said (v ++ a)).took ≤ length v → f (m (u ++ a)).said (v ++ b) ≡ f (m (u ++ a)).said (v ++ a))
      → (m >>= f) (u ++ b) ≡ (m >>= f) (u ++ a)
  unfolding ◌>>=◌
  bind_same m f u a b h e t =
      let i : ℕ = (m (u ++ a)).took in
      let x : A = (m (u ++ a)).said in
      let le : i ≤ length u = omega arith in
      let da : f x (drop i (u ++ a)) ≡ f x (drop i u ++ a) = ap (f x) (drop-append-le i u a le) in
      let db : f x (drop i (u ++ b)) ≡ f x (drop i u ++ b) = ap (f x) (drop-append-le i u b le) in
      let h' : (f x (drop i u ++ a)).took ≤ length (drop i u) = omega (arith, length-drop i u, ap (λ (z : Got B). z.took) da) in
      let q : f x (drop i (u ++ b)) ≡ f x (drop i (u ++ a)) = db ∙ t (drop i u) da h' ∙ sym da in
      rw e (ap (λ (z : Got B). record { took = i + z.took; said = z.said }) q)

  bind_first : (m : Eater A) (f : A → Eater B) (cs : List ℕ) (n : ℕ) → ((m >>= f) cs).took ≤ n → (m cs).took ≤ n
  unfolding ◌>>=◌
  bind_first m f cs n h = omega arith

  -- what the second says is good only where what the first said is
  pub sound_bind : {g : A → Bool} {k : B → Bool} {n : ℕ} {m : Eater A} {f : A → Eater B} → Sound n g m → ((x : A) → Sound 0 k (f x)) → ((x : A) (cs : List ℕ) → k (f x cs).said ≡ true → g x ≡ true) → Sound n k (m >>= f)
  sound_bind {g} {k} {n} {m} {f} s t w =
      record {
        fits = (fits_bind (fitting s) (λ x. fitting (t x))).fits;
        near = λ u a b l h. bind_same m f u a b h (s.near u a b l (bind_first m f (u ++ a) (length u) h)) (λ v d i. (t (m (u ++ a)).said).near v a b l i);
        local = at;
      }
    where
      at : (u a b : List ℕ) → Like 2 a b → ((m >>= f) (u ++ a)).took ≤ length u → k ((m >>= f) (u ++ a)).said ≡ true → (m >>= f) (u ++ b) ≡ (m >>= f) (u ++ a)
      at u a b l h j =
          let j' : k (f (m (u ++ a)).said (drop (m (u ++ a)).took (u ++ a))).said ≡ true = unfold ◌>>=◌ in j in
          bind_same m f u a b h
          (s.local u a b l (bind_first m f (u ++ a) (length u) h) (w (m (u ++ a)).said (drop (m (u ++ a)).took (u ++ a)) j'))
          (λ v d i. (t (m (u ++ a)).said).local v a b l i (subst (λ (r : Got B). k r.said ≡ true) d j'))

-- a scan, and then another, where every word of the first will do
pub sound_then : {A B : Type 0} {k : B → Bool} {n : ℕ} {m : Eater A} {f : A → Eater B} → Sound n always m → ((x : A) → Sound 0 k (f x)) → Sound n k (m >>= f)
sound_then s t = sound_bind s t (λ x cs h. refl)

-- a scan, and then a word, which is good only where what the scan said is
pub sound_say : {A B : Type 0} {g : A → Bool} {k : B → Bool} {n : ℕ} {m : Eater A} (f : A → B) → Sound n g m → ((x : A) → k (f x) ≡ true → g x ≡ true) → Sound n k (m >>= (λ (x : A). give (f x)))
unfolding give
sound_say f s w = sound_bind s (λ x. sound_give (f x)) (λ x cs h. w x h)

-- a scan for the next character if it is of p, which a newline is not, and which takes it then
pub sound_if_taking : {A : Type 0} {g : A → Bool} {n : ℕ} {this that : Eater A} (p : ℕ → Bool) → p 0 ≡ false → p 'newline' ≡ false → Sound 1 g this → Sound 0 g that
    → ((cs : List ℕ) → p (get_or cs 0 0) ≡ true → 1 ≤ (this cs).took) → Sound n g (if_at p this that)
unfolding if_at
sound_if_taking {A} {g} {n} {this} {that} p z q x y some =
    record {
      fits = λ cs h. (fits_if_at_one p z (fitting x) (fitting y)).fits cs zero-le;
      near = λ u a b l h. rw (first_near u a b l) (pick_near x y (p (get_or (u ++ a) 0 0)) u a b l h);
      local = at;
    }
  where
    next : (a b : List ℕ) → Like 2 a b → p (get_or a 0 0) ≡ false → p (get_or b 0 0) ≡ false
    next a b ends e = e
    next a b (gap i) e = q
    next a b (same l) e = e

    first : (a b : List ℕ) → Like 2 a b → (s : Bool) → p (get_or a 0 0) ≡ s → (pick s (this a) (that a)).took ≤ 0 → g (pick s (this a) (that a)).said ≡ true
        → pick (p (get_or b 0 0)) (this b) (that b) ≡ pick s (this a) (that a)
    first a b l true e h k = absurd (omega (arith, some a e))
    first a b l false e h k = rw (next a b l e) (y.local [] a b l h k)

    at : (u a b : List ℕ) → Like 2 a b → (if_at p this that (u ++ a)).took ≤ length u → g (if_at p this that (u ++ a)).said ≡ true → if_at p this that (u ++ b) ≡ if_at p this that (u ++ a)
    at [] a b l h k = first a b l (p (get_or a 0 0)) refl h k
    at (c ∷ u) a b l h k = pick_local x y (p c) (c ∷ u) a b l h k

pub sound_if_eat : {A : Type 0} {g : A → Bool} {n : ℕ} {this that : Eater A} (p : ℕ → Bool) → p 0 ≡ false → p 'newline' ≡ false → Sound 0 g this → Sound 0 g that → Sound n g (if_eat p this that)
unfolding ◌>>=◌ eat
sound_if_eat p z q x y = sound_if_taking p z q (sound_then (sound_eat 1) (λ i. x)) y (λ cs e. omega arith)
