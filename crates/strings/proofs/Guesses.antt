-- The guess where a raw string may have been meant to end, in the facts of the code.
use Prim.Native.Nat.{ℕ, ◌+◌, ◌≤◌, ◌<◌}
use mathlib.Core.Path.{◌≡◌, refl, sym, ap, ◌∙◌}
use mathlib.Core.Bool.{Bool, true, false}
use mathlib.Core.List.{List, [], ◌∷◌}
use lib.Dec.{eqb}
use lib.ListN.{length, drop}
use native.Mathlib.Omega.{arith}
use borrow.Author.Tests.{ne_eqb, eqb-true, lt-ltb, le-ltb}
use Rattle.basics.specs.Choice.{pick}
use Rattle.text.specs.Chars.{width, size}
use Rattle.eaters.specs.Eat.{take_while, while}
use Rattle.token.specs.Names.{is, '#'}
use Rattle.token.specs.RawCheck.{hashes, Guess, guess}
use Rattle.cursor.specs.declared.Cursor.{Cursor}
use Rattle.std.specs.Prelude.{Option, None, Some}
use Rattle.cursor.specs.Cursors.{rest, Seen}
use Rattle.cursor.specs.Moved.{left_of, no_more}
use Rattle.cursor.specs.Ran.{left}
use Rattle.cursor.proofs.Moves.{char_at, end_at}
use Rattle.cursor.proofs.Bytes.{while_bytes}
use Rattle.cursor.specs.Counted.{Counted}
use Rattle.cursor.specs.declared.Repeated.{Repeated}
use Rattle.strings.specs.declared.Guessed.{Guessed}
use Rattle.strings.specs.Guesses.{guess_of, unguessed}

-- a quote with n hashes after it, and p the offset past the quote
abbrev quote : (n p : ℕ) → Guess
quote n p = record { most = n; offset = Some p }

-- one step of the definition
guess_over : (p : ℕ) (g : Guess) → guess p g [] ≡ g
unfolding guess
guess_over p g = refl

module _ (p : ℕ) (g : Guess) (c : ℕ) (cs : List ℕ) where
  guess_other : (c ≡ 0x22 → ⊥) → guess p g (c ∷ cs) ≡ guess (p + width c) g cs
  unfolding guess
  guess_other q = rw (ne_eqb c 0x22 q)

  guess_fewer : c ≡ 0x22 → hashes cs ≤ g.most → guess p g (c ∷ cs) ≡ guess (p + width c) g cs
  unfolding guess
  guess_fewer q h = rw (q, le-ltb g.most (hashes cs) h)

  guess_more : c ≡ 0x22 → g.most < hashes cs → guess p g (c ∷ cs) ≡ guess (p + width c) (quote (hashes cs) (p + 1)) cs
  unfolding guess
  guess_more q h = rw (q, lt-ltb g.most (hashes cs) h)

-- hashes are not quotes: the guess goes over them
over_hashes : (p : ℕ) (g : Guess) (cs : List ℕ) → guess p g cs ≡ guess (p + size (take_while (is '#') cs)) g (left (while (is '#')) cs)
unfolding while
over_hashes p g [] = ap (λ (k : ℕ). guess k g []) (omega arith)
over_hashes p g (c ∷ cs) = go (eqb c 0x23) refl (over_hashes (p + width c) g cs)
  where
    go : (t : Bool) → eqb c 0x23 ≡ t → guess (p + width c) g cs ≡ guess (p + width c + size (take_while (is '#') cs)) g (drop (hashes cs) cs)
        → guess p g (c ∷ cs) ≡ guess (p + size (pick t (c ∷ take_while (is '#') cs) [])) g (drop (length (pick t (c ∷ take_while (is '#') cs) [])) (c ∷ cs))
    go true e h =
        let q : c ≡ 0x23 = eqb-true c 0x23 e in
        guess_other p g c cs (λ z. omega (arith, q, z)) ∙ h ∙ ap (λ (k : ℕ). guess k g (drop (hashes cs) cs)) (omega arith)
    go false e h = ap (λ (k : ℕ). guess k g (c ∷ cs)) (omega arith)

-- the guess from here is the guess from the start
pub record Guessing (s : List ℕ) (a b : Cursor) (g : Guessed) : Type 0 where
  pub same : guess b.at (guess_of g) (rest s b) ≡ guess a.at unguessed (rest s a)

module _ {s : List ℕ} {a b : Cursor} {g : Guessed} {r : Option (ℕ × Cursor)} (i : Guessing s a b g) (h : Seen s b r) where
  pub guessing_over : r ≡ None → guess_of g ≡ guess a.at unguessed (rest s a)
  guessing_over e = sym (guess_over b.at (guess_of g)) ∙ ap (guess b.at (guess_of g)) (sym (end_at e h)) ∙ i.same

  module _ {c : ℕ} {d : Cursor} (e : r ≡ Some (c, d)) where
    -- one character more
    on_by : (w : Guess) → guess b.at (guess_of g) (c ∷ rest s d) ≡ guess (b.at + width c) w (rest s d) → guess d.at w (rest s d) ≡ guess a.at unguessed (rest s a)
    on_by w q =
        ap (λ (k : ℕ). guess k w (rest s d)) (char_at e h).bytes ∙ sym q ∙ ap (guess b.at (guess_of g)) (sym (char_at e h).chars) ∙ i.same

    pub guessing_other : (c ≡ 0x22 → ⊥) → Guessing s a d g
    guessing_other q = record { same = on_by (guess_of g) (guess_other b.at (guess_of g) c (rest s d) q) }

    module _ (q : c ≡ 0x22) {k : Repeated} (m : Counted '#' s d k) where
      -- past the hashes
      past : (w : Guess) → guess k.next.at w (rest s k.next) ≡ guess d.at w (rest s d)
      past w =
          ap (guess k.next.at w) (left_of m.moved)
          ∙ ap (λ (n : ℕ). guess n w (left (while (is '#')) (rest s d))) (while_bytes (is '#') m.moved)
          ∙ sym (over_hashes d.at w (rest s d))

      module _ {n : ℕ} (f : n ≡ k.count) where
        pub guessing_fewer : n ≤ g.most → Guessing s a k.next g
        guessing_fewer l =
            record { same = past (guess_of g) ∙ on_by (guess_of g) (guess_fewer b.at (guess_of g) c (rest s d) q (omega (arith, m.count))) }

        pub guessing_more : {p o : ℕ} → p ≡ d.at → o ≡ p → g.most < n → Guessing s a k.next (record { most = n; offset = Some o })
        unfolding width
        guessing_more {p} {o} u v l =
            let w : width c ≡ 1 = ap width q in
            let y : b.at + 1 ≡ o = omega (arith, (char_at e h).bytes) in
            let z : quote (hashes (rest s d)) (b.at + 1) ≡ quote n o = cc m.count in
            let x = guess_more b.at (guess_of g) c (rest s d) q (omega (arith, m.count)) in
            record { same = past (quote n o) ∙ on_by (quote n o) (x ∙ ap (λ (j : Guess). guess (b.at + width c) j (rest s d)) z) }

      pub guessing_less : length (rest s k.next) < length (rest s b)
      guessing_less = omega (arith, ap length (char_at e h).chars, no_more m.moved, ap length (left_of m.moved))
