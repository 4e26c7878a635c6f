-- The raw check, in the facts of the code.
use Prim.Native.Nat.{ℕ, ◌+◌, ◌≤◌, ◌<◌}
use mathlib.Core.Path.{◌≡◌, refl, sym, ap, ◌∙◌}
use mathlib.Core.Bool.{Bool, true, false}
use mathlib.Core.List.{List, [], ◌∷◌}
use lib.Dec.{eqb, ltb}
use lib.ListN.{length, get_or, drop}
use native.Mathlib.Omega.{arith}
use borrow.Author.Tests.{ne_eqb, eqb-true, lt-ltb, le-ltb}
use Rattle.basics.specs.Choice.{pick}
use Rattle.text.specs.Chars.{chars, width, size}
use Rattle.eaters.specs.Eat.{take_while, while}
use Rattle.eaters.specs.Scan.{first_with}
use Rattle.token.specs.declared.RawStrError.{RawStrError}
use Rattle.token.specs.declared.RawStrError.TheVariants as error
use Rattle.token.specs.Names.{is, 'double', '#'}
use Rattle.token.specs.RawCheck.{hashes, Guess, guess, unended, started, raw_check}
use Rattle.cursor.specs.declared.Cursor.{Cursor}
use Rattle.std.specs.Prelude.{Result, Ok, Err}
use Rattle.cursor.specs.Cursors.{rest}
use Rattle.cursor.specs.Moved.{Moved, left_of}
use Rattle.cursor.specs.Ran.{Ran}
use Rattle.cursor.proofs.Steps.{rest_at}
use Rattle.cursor.proofs.Moves.{bumped}
use Rattle.cursor.proofs.Bytes.{while_bytes, bump_bytes}
use Rattle.cursor.specs.Counted.{Counted}
use Rattle.cursor.specs.declared.Repeated.{Repeated}
use Rattle.strings.specs.declared.Guessed.{Guessed}
use Rattle.strings.specs.Guesses.{guess_of, unguessed}

abbrev good : Result (Unit {0}) RawStrError
good = Ok tt

-- a hash takes one byte
size_hashes : (cs : List ℕ) → size (take_while (is '#') cs) ≡ hashes cs
unfolding width
size_hashes [] = refl
size_hashes (c ∷ cs) = go (eqb c 0x23) refl (size_hashes cs)
  where
    go : (t : Bool) → eqb c 0x23 ≡ t → size (take_while (is '#') cs) ≡ hashes cs → size (pick t (c ∷ take_while (is '#') cs) []) ≡ length (pick t (c ∷ take_while (is '#') cs) [])
    go true e h = let w : width c ≡ 1 = ap width (eqb-true c 0x23 e) in omega arith
    go false e h = refl

-- the definition, by what follows the hashes
by_other : (p n : ℕ) (cs : List ℕ) → (get_or cs 0 0 ≡ 0x22 → ⊥) → started p n cs ≡ Err (error.InvalidStarter (get_or cs 0 0))
by_other p n [] q = refl
by_other p n (c ∷ cs) q = rw (ne_eqb c 0x22 q)

module _ (p n c : ℕ) (cs : List ℕ) where
  module _ (q : c ≡ 0x22) where
    by_end : (first_with 'double' '#' n cs).said ≡ true → started p n (c ∷ cs) ≡ pick (ltb n 256) good (Err (error.TooManyDelimiters n))
    by_end t = rw (q, t)

    by_none : (first_with 'double' '#' n cs).said ≡ false → started p n (c ∷ cs) ≡ unended (p + n + 1) n cs
    by_none t = rw (q, t)

module _ {s : List ℕ} {p : ℕ} {a : Cursor} (z : a.at ≡ p) {h : Repeated} (g : Counted '#' s a h) {c : ℕ} (e : c ≡ get_or (rest s h.next) 0 0) where
  begun : raw_check p (chars (drop p s)) ≡ started p h.count (rest s h.next)
  unfolding raw_check while
  begun =
      ap (raw_check p) (sym (rest_at s a z))
      ∙ ap (λ (n : ℕ). started p n (drop (hashes (rest s a)) (rest s a))) (sym g.count) ∙ ap (started p h.count) (sym (left_of g.moved))

  pub bad_starter : (c ≡ 0x22 → ⊥) → Err (error.InvalidStarter c) ≡ raw_check p (chars (drop p s))
  bad_starter q =
      ap (λ (x : ℕ). Err (error.InvalidStarter x)) e ∙ sym (begun ∙ by_other p h.count (rest s h.next) (λ k. q (e ∙ k)))

  module _ (q : c ≡ 0x22) {d : Cursor} (m : Moved s h.next d (drop 1 (rest s h.next))) {b : Cursor} {t : Bool} (f : Ran (first_with 'double' '#' h.count) s d b t) where
    from_here : raw_check p (chars (drop p s)) ≡ started p h.count (c ∷ rest s d)
    from_here = begun ∙ ap (started p h.count) (bumped e (omega arith) m)

    pub check_good : t ≡ true → h.count < 256 → good ≡ raw_check p (chars (drop p s))
    check_good y l = sym (from_here ∙ by_end p h.count c (rest s d) q (sym f.said ∙ y) ∙ rw (lt-ltb h.count 256 l))

    pub check_many : {n : ℕ} → t ≡ true → 256 ≤ h.count → n ≡ h.count → Err (error.TooManyDelimiters n) ≡ raw_check p (chars (drop p s))
    check_many y l x =
        ap (λ (n : ℕ). Err (error.TooManyDelimiters n)) x
        ∙ sym (from_here ∙ by_end p h.count c (rest s d) q (sym f.said ∙ y) ∙ rw (le-ltb h.count 256 l))

    -- the string begins after the prefix, the hashes and the quote
    here : d.at ≡ p + h.count + 1
    unfolding width
    here =
        let w : width c ≡ 1 = ap width q in
        omega (arith, z, bump_bytes e (omega arith) m, while_bytes (is '#') g.moved, size_hashes (rest s a), g.count)

    pub check_none : {k : Guessed} {n : ℕ} → t ≡ false → guess_of k ≡ guess d.at unguessed (rest s d) → n ≡ h.count → Err (error.NoTerminator n k.most k.offset) ≡ raw_check p (chars (drop p s))
    check_none {k} y j x =
        ap (λ (n : ℕ). Err (error.NoTerminator n k.most k.offset)) x
        ∙ ap (λ (o : Guess). Err (error.NoTerminator h.count o.most o.offset)) j
        ∙ ap (λ (n : ℕ). unended n h.count (rest s d)) here
        ∙ sym (from_here ∙ by_none p h.count c (rest s d) q (sym f.said ∙ y))
