-- The search for the end of a raw string, in the facts of the code.
use Prim.Native.Nat.{ℕ, zero, suc, ◌<◌}
use mathlib.Core.Path.{◌≡◌, refl, sym, ap, ◌∙◌}
use mathlib.Core.Bool.{Bool, true, false}
use mathlib.Core.List.{List, [], ◌∷◌}
use lib.Dec.{eqb, eqb-zero-suc, eqb-suc-suc}
use lib.ListN.{length, drop}
use native.Mathlib.Omega.{arith}
use borrow.Author.Tests.{ne_eqb, eq-eqb, eqb-true}
use Rattle.basics.specs.Choice.{pick, and}
use Rattle.eaters.specs.Eat.{Got, Eater, take_most, while_most}
use Rattle.eaters.specs.Scan.{after, run, first_with}
use Rattle.token.specs.Names.{is, 'double', '#'}
use Rattle.cursor.specs.declared.Cursor.{Cursor}
use Rattle.cursor.specs.declared.Repeated.{Repeated}
use Rattle.std.specs.Prelude.{Option, None, Some}
use Rattle.cursor.specs.Cursors.{rest, Seen}
use Rattle.cursor.specs.Moved.{Moved, start, over, onward, arrive, left_of, no_more}
use Rattle.cursor.specs.Ran.{left, Ran}
use Rattle.cursor.proofs.Moves.{char_at, end_at}
use Rattle.quoted.specs.Raws.{CountedMost}
use Rattle.quoted.proofs.Pounds.{most, left_most}

abbrev F : ℕ → Eater Bool
F n = first_with 'double' '#' n

-- one step of the definition
step_other : (n c : ℕ) (cs : List ℕ) → (c ≡ 0x22 → ⊥) → F n (c ∷ cs) ≡ after (F n cs)
unfolding first_with
step_other n c cs q = rw (ne_eqb c 0x22 q)

step_short : (n c : ℕ) (cs : List ℕ) → c ≡ 0x22 → run '#' n cs ≡ false → F n (c ∷ cs) ≡ after (F n cs)
unfolding first_with
step_short n c cs q h = rw (q, h)

step_found : (n c : ℕ) (cs : List ℕ) → c ≡ 0x22 → run '#' n cs ≡ true → F n (c ∷ cs) ≡ record { took = suc n; said = true }
unfolding first_with
step_found n c cs q h = rw (q, h)

step_over : (n : ℕ) → F n [] ≡ record { took = 0; said = false }
unfolding first_with
step_over n = refl

-- n hashes are there exactly where counting n at the most gives n
run_most : (n : ℕ) (cs : List ℕ) → run '#' n cs ≡ eqb (most n cs) n
run_most zero cs = refl
run_most (suc n) [] = sym (eqb-zero-suc n)
run_most (suc n) (c ∷ cs) = go (eqb c 0x23) (run_most n cs)
  where
    go : (t : Bool) → run '#' n cs ≡ eqb (most n cs) n → and t (run '#' n cs) ≡ eqb (length (pick t (c ∷ take_most n (is '#') cs) [])) (suc n)
    go true e = e ∙ sym (eqb-suc-suc (most n cs) n)
    go false e = sym (eqb-zero-suc n)

-- hashes are not quotes: the search goes over them
abbrev Same : ℕ → List ℕ → List ℕ → Type 0
Same n cs ds = (left (F n) cs ≡ left (F n) ds) × ((F n cs).said ≡ (F n ds).said)

over_hashes : (n m : ℕ) (cs : List ℕ) → Same n cs (left_most m cs)
unfolding while_most
over_hashes n zero cs = (refl, refl)
over_hashes n (suc m) [] = (refl, refl)
over_hashes n (suc m) (c ∷ cs) = go (eqb c 0x23) refl (over_hashes n m cs)
  where
    hash : c ≡ 0x23 → F n (c ∷ cs) ≡ after (F n cs)
    hash e = step_other n c cs (λ q. omega (arith, e, q))

    go : (t : Bool) → eqb c 0x23 ≡ t → Same n cs (left_most m cs) → Same n (c ∷ cs) (drop (length (pick t (c ∷ take_most m (is '#') cs) [])) (c ∷ cs))
    go true e h = let q = hash (eqb-true c 0x23 e) in (ap (λ (r : Got Bool). drop r.took (c ∷ cs)) q ∙ h.0, ap (λ (r : Got Bool). r.said) q ∙ h.1)
    go false e h = (refl, refl)

left_all : (n : ℕ) (cs : List ℕ) → most n cs ≡ n → left_most n cs ≡ drop n cs
unfolding while_most
left_all n cs e = ap (λ (k : ℕ). drop k cs) e

-- the answer from here is the answer from the start
pub record Seeking (n : ℕ) (s : List ℕ) (a b : Cursor) : Type 0 where
  pub moved : Moved s a b (rest s b)
  pub same : left (F n) (rest s b) ≡ left (F n) (rest s a)
  pub word : (F n (rest s b)).said ≡ (F n (rest s a)).said

pub seek_start : (n : ℕ) (s : List ℕ) (a : Cursor) → Seeking n s a a
seek_start n s a = record { moved = start s a; same = refl; word = refl }

module _ (n : ℕ) {s : List ℕ} {a b : Cursor} {r : Option (ℕ × Cursor)} (i : Seeking n s a b) (h : Seen s b r) where
  pub seek_over : r ≡ None → Ran (F n) s a b false
  seek_over e =
      let z : F n (rest s b) ≡ record { took = 0; said = false } = ap (F n) (end_at e h) ∙ step_over n in
      record { moved = arrive i.moved (rw z at i.same); said = rw z at i.word }

  module _ {c : ℕ} {d : Cursor} (e : r ≡ Some (c, d)) where
    -- one character more, and the search goes on
    on_by : F n (c ∷ rest s d) ≡ after (F n (rest s d)) → Seeking n s a d
    on_by q =
        let z : F n (rest s b) ≡ after (F n (rest s d)) = ap (F n) (char_at e h).chars ∙ q in
        record { moved = onward i.moved (over (char_at e h)); same = rw (z, (char_at e h).chars) at i.same; word = rw z at i.word }

    pub seek_other : (c ≡ 0x22 → ⊥) → Seeking n s a d
    seek_other q = on_by (step_other n c (rest s d) q)

    module _ (q : c ≡ 0x22) {k : Repeated} (g : CountedMost n s d k) where
      pub seek_short : (k.count ≡ n → ⊥) → Seeking n s a k.next
      seek_short z =
          let v : run '#' n (rest s d) ≡ false = run_most n (rest s d) ∙ ne_eqb _ n (λ w. z (g.count ∙ w)) in
          let j : Seeking n s a d = on_by (step_short n c (rest s d) q v) in
          let w = over_hashes n n (rest s d) in
          record {
            moved = arrive (onward j.moved g.moved) (sym (left_of g.moved));
            same = ap (left (F n)) (left_of g.moved) ∙ sym w.0 ∙ j.same;
            word = ap (λ (l : List ℕ). (F n l).said) (left_of g.moved) ∙ sym w.1 ∙ j.word;
          }

      pub seek_found : k.count ≡ n → Ran (F n) s a k.next true
      seek_found z =
          let m : most n (rest s d) ≡ n = sym g.count ∙ z in
          let v : run '#' n (rest s d) ≡ true = run_most n (rest s d) ∙ eq-eqb _ n m in
          let y : F n (rest s b) ≡ record { took = suc n; said = true } = ap (F n) (char_at e h).chars ∙ step_found n c (rest s d) q v in
          record {
            moved = arrive (onward (onward i.moved (over (char_at e h))) g.moved) (left_all n (rest s d) m ∙ (rw (y, (char_at e h).chars) at i.same));
            said = rw y at i.word;
          }

      pub seek_fewer : length (rest s k.next) < length (rest s b)
      seek_fewer = omega (arith, ap length (char_at e h).chars, no_more g.moved, ap length (left_of g.moved))
