-- Laws of runs: one for each word of the vocabulary, so that a function's proof mirrors its rule; and one set for every search for an end.
use Prim.Native.Nat.{ℕ, ◌+◌, ◌≤◌}
use mathlib.Core.Path.{◌≡◌, refl, sym, ap, subst, ◌∙◌}
use mathlib.Core.Bool.{Bool, true, false}
use mathlib.Core.List.{List, ◌++◌}
use lib.ListN.{length, get_or, take, drop, length-drop, length-append}
use lib.Seq.{drop-drop, take_at}
use native.Mathlib.Omega.{arith}
use Rattle.basics.specs.Choice.{and}
use Rattle.text.specs.Chars.{size}
use Rattle.eaters.specs.Eat.{Got, Eater, give, eat, ◌>>=◌, ◌>>◌, texted, choose}
use Rattle.eaters.specs.Look.{if_at, if_two, if_eat}
use Rattle.cursor.specs.declared.Cursor.{Cursor}
use Rattle.cursor.specs.Cursors.{rest}
use Rattle.cursor.specs.Moved.{Moved, start, left_of, then, one_cursor, passed}
use Rattle.cursor.specs.Ran.{left, Ran}

-- ONE ANSWER: two runs of one eater from one cursor end at one cursor, and say the same
pub record Same {A : Type 0} (d e : Cursor) (x y : A) : Type 0 where
  pub cursor : d ≡ e
  pub word : x ≡ y

pub one_answer : {A : Type 0} {m : Eater A} {s : List ℕ} {c d e : Cursor} {x y : A} → Ran m s c d x → Ran m s c e y → Same d e x y
one_answer p q = record { cursor = one_cursor p.moved q.moved; word = p.said ∙ sym q.said }

-- the same run, said in other words
pub ran_word : {A : Type 0} {m : Eater A} {s : List ℕ} {a b : Cursor} {x y : A} → Ran m s a b x → y ≡ x → Ran m s a b y
ran_word r e = record { moved = r.moved; said = e ∙ r.said }

-- WORDS OF THE VOCABULARY

pub ran_give : {A : Type 0} (x : A) (s : List ℕ) (c : Cursor) → Ran (give x) s c c x
unfolding give
ran_give x s c = record { moved = start s c; said = refl }

pub ran_bind : {A B : Type 0} {m : Eater A} (f : A → Eater B) {s : List ℕ} {a b d : Cursor} {x : A} {y : B} → Ran m s a b x → Ran (f x) s b d y → Ran (m >>= f) s a d y
unfolding ◌>>=◌
ran_bind {m = m} f {s} {a} {b} {d} {x} {y} p q =
    record {
      moved = rw (← drop-drop (f (m (rest s a)).said (left m (rest s a))).took (m (rest s a)).took (rest s a), ← p.said) (then (left (f x)) p.moved q.moved);
      said = q.said ∙ rw (left_of p.moved, p.said);
    }

pub ran_then : {A B : Type 0} {m : Eater A} {k : Eater B} {s : List ℕ} {a b d : Cursor} {x : A} {y : B} → Ran m s a b x → Ran k s b d y → Ran (m >> k) s a d y
ran_then {A} {B} {m} {k} p q = ran_bind (λ (x : A). k) p q

-- to say something else, once the run is made
pub ran_say : {A B : Type 0} {m : Eater A} (f : A → B) {s : List ℕ} {a b : Cursor} {x : A} → Ran m s a b x → Ran (m >>= (λ (x : A). give (f x))) s a b (f x)
ran_say {A} {B} {m} f {s} {a} {b} {x} p = ran_bind (λ (x : A). give (f x)) p (ran_give (f x) s b)

pub ran_eats : (n : ℕ) {s : List ℕ} {a b : Cursor} → Moved s a b (drop n (rest s a)) → Ran (eat n) s a b tt
unfolding eat
ran_eats n m = record { moved = m; said = refl }

pub ran_eat : {s : List ℕ} {a b : Cursor} → Moved s a b (drop 1 (rest s a)) → Ran (eat 1) s a b tt
ran_eat m = ran_eats 1 m

-- the next character is of p, or is not
module _ {A : Type 0} (this that : Eater A) (p : ℕ → Bool) {s : List ℕ} {a b : Cursor} {c : ℕ} {x : A} (e : c ≡ get_or (rest s a) 0 0) where
  pub ran_yes : p c ≡ true → Ran this s a b x → Ran (if_at p this that) s a b x
  unfolding if_at
  ran_yes h r = record { moved = rw (← e, h) r.moved; said = rw (← e, h) r.said }

  pub ran_no : p c ≡ false → Ran that s a b x → Ran (if_at p this that) s a b x
  unfolding if_at
  ran_no h r = record { moved = rw (← e, h) r.moved; said = rw (← e, h) r.said }

pub ran_take : {A : Type 0} (this that : Eater A) (p : ℕ → Bool) {s : List ℕ} {a b d : Cursor} {c : ℕ} {x : A} → c ≡ get_or (rest s a) 0 0 → p c ≡ true → Moved s a b (drop 1 (rest s a)) → Ran this s b d x → Ran (if_eat p this that) s a d x
ran_take {A} this that p e h m r = ran_yes (eat 1 >> this) that p e h (ran_then (ran_eat m) r)

-- the next two are of p and of q, or are not
module _ {A : Type 0} (this that : Eater A) (p q : ℕ → Bool) {s : List ℕ} {a b : Cursor} {c d : ℕ} {x : A} (e : c ≡ get_or (rest s a) 0 0) (f : d ≡ get_or (rest s a) 1 0) where
  pub ran_both : and (p c) (q d) ≡ true → Ran this s a b x → Ran (if_two p q this that) s a b x
  unfolding if_two
  ran_both h r = record { moved = rw (← e, ← f, h) r.moved; said = rw (← e, ← f, h) r.said }

  pub ran_not_both : and (p c) (q d) ≡ false → Ran that s a b x → Ran (if_two p q this that) s a b x
  unfolding if_two
  ran_not_both h r = record { moved = rw (← e, ← f, h) r.moved; said = rw (← e, ← f, h) r.said }

module _ {A : Type 0} (this that : Eater A) {s : List ℕ} {a b : Cursor} {x : A} {t : Bool} where
  pub ran_this : t ≡ true → Ran this s a b x → Ran (choose t this that) s a b x
  unfolding choose
  ran_this h r = record { moved = rw h r.moved; said = rw h r.said }

  pub ran_that : t ≡ false → Ran that s a b x → Ran (choose t this that) s a b x
  unfolding choose
  ran_that h r = record { moved = rw h r.moved; said = rw h r.said }

-- with the text taken
pub ran_texted : {A : Type 0} {m : Eater A} {s : List ℕ} {a b : Cursor} {x : A} → Ran m s a b x → Ran (texted m) s a b (record { text = take (m (rest s a)).took (rest s a); said = x })
unfolding texted
ran_texted r = record { moved = r.moved; said = rw r.said }

-- A RUN IN BYTES: what was taken, if no more was taken than was there
taken : (n : ℕ) (t cs : List ℕ) → n ≤ length cs → t ++ drop n cs ≡ cs → take n cs ≡ t
taken n t cs h w =
    let k : length t ≡ n = omega (arith, ap length w, length-append t (drop n cs), length-drop n cs) in
    sym (ap (take n) w) ∙ take_at t (drop n cs) n k

pub ran_bytes : {A : Type 0} (m : Eater A) {s : List ℕ} {a b : Cursor} {x : A} → Ran m s a b x → (m (rest s a)).took ≤ length (rest s a) → b.at ≡ a.at + size (take (m (rest s a)).took (rest s a))
ran_bytes m {s} {a} {b} r h =
    let p = passed r.moved in
    p.bytes ∙ ap (λ (l : List ℕ). a.at + size l) (sym (taken (m (rest s a)).took p.text (rest s a) h p.whole))

-- an eater that does here what another does
pub ran_as : {A : Type 0} {m n : Eater A} {s : List ℕ} {a b : Cursor} {x : A} → m (rest s a) ≡ n (rest s a) → Ran n s a b x → Ran m s a b x
ran_as {A} {m} {n} {s} {a} {b} {x} e r =
    record { moved = subst (λ (g : Got A). Moved s a b (drop g.took (rest s a))) (sym e) r.moved; said = r.said ∙ ap (λ (g : Got A). g.said) (sym e) }
