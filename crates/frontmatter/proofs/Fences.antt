-- Dashes and fences, in the facts of the code.
use Prim.Native.Nat.{ℕ, zero, suc, ◌≤◌, ◌<◌}
use mathlib.Core.Path.{◌≡◌, refl, sym, ap, ◌∙◌}
use mathlib.Core.Bool.{Bool, true, false}
use mathlib.Core.List.{List, [], ◌∷◌}
use lib.Dec.{eqb}
use lib.ListN.{length, drop}
use native.Mathlib.Omega.{arith}
use borrow.Author.Tests.{ne_eqb, eqb-true}
use Rattle.basics.specs.Choice.{pick, and}
use Rattle.eaters.specs.Eat.{take_while, while}
use Rattle.eaters.specs.Find.{Place, at, nowhere, further}
use Rattle.eaters.specs.Look.{begins}
use Rattle.token.specs.Names.{is, 'newline', '-'}
use Rattle.token.specs.Frontmatter.{dashes, first}
use Rattle.cursor.specs.declared.Cursor.{Cursor}
use Rattle.cursor.specs.declared.Repeated.{Repeated}
use Rattle.std.specs.Prelude.{Option, None, Some}
use Rattle.cursor.specs.Cursors.{rest, Seen}
use Rattle.cursor.specs.Counted.{Counted}
use Rattle.cursor.specs.Moved.{over, arrive, left_of, no_more}
use Rattle.cursor.proofs.Moves.{char_at, end_at}
use Rattle.frontmatter.specs.Searches.{SoughtAt}
use Rattle.frontmatter.proofs.Seeks.{shift, shift_none, shift_more, shift_further, Seeking, seek_past, seek_on, seek_at, seek_gone, first_here, first_on, first_none}

-- how many dashes are at the front
abbrev run : List ℕ → ℕ
run cs = length (take_while (is '-') cs)

-- THE FENCE: n dashes are there exactly where n or more are counted
many : (n : ℕ) (cs : List ℕ) → n ≤ run cs → begins (dashes n) cs ≡ true
many zero cs h = refl
many (suc n) [] h = absurd (omega arith)
many (suc n) (c ∷ cs) h = go (eqb c 0x2D) (many n cs) h
  where
    go : (t : Bool) → (n ≤ run cs → begins (dashes n) cs ≡ true) → suc n ≤ length (pick t (c ∷ take_while (is '-') cs) []) → and t (begins (dashes n) cs) ≡ true
    go true f l = f (omega arith)
    go false f l = absurd (omega arith)

few : (n : ℕ) (cs : List ℕ) → run cs < n → begins (dashes n) cs ≡ false
few zero cs h = absurd (omega arith)
few (suc n) [] h = refl
few (suc n) (c ∷ cs) h = go (eqb c 0x2D) (few n cs) h
  where
    go : (t : Bool) → (run cs < n → begins (dashes n) cs ≡ false) → length (pick t (c ∷ take_while (is '-') cs) []) < suc n → and t (begins (dashes n) cs) ≡ false
    go true f l = f (omega arith)
    go false f l = refl

abbrev pub fence : ℕ → List ℕ → Place
fence n cs = first ('newline' ∷ dashes n) cs

-- one step of the definition
module _ (n c : ℕ) (cs : List ℕ) where
  fence_other : (c ≡ 0x0A → ⊥) → fence n (c ∷ cs) ≡ further (fence n cs)
  fence_other q = first_on ('newline' ∷ dashes n) c cs (ap (λ (t : Bool). and t (begins (dashes n) cs)) (ne_eqb c 0x0A q))

  module _ (q : c ≡ 0x0A) where
    fence_few : run cs < n → fence n (c ∷ cs) ≡ further (fence n cs)
    fence_few l = first_on ('newline' ∷ dashes n) c cs (rw (q, few n cs l))

    fence_many : n ≤ run cs → fence n (c ∷ cs) ≡ at 0
    fence_many l = first_here ('newline' ∷ dashes n) (c ∷ cs) (rw (q, many n cs l))

fence_none : (n : ℕ) → fence n [] ≡ nowhere
fence_none n = first_none ('newline' ∷ dashes n) refl

-- dashes are not newlines: the search goes over them
over_dashes : (n : ℕ) (cs : List ℕ) → fence n cs ≡ shift (run cs) (fence n (drop (run cs) cs))
over_dashes n [] = shift_none (fence n [])
over_dashes n (c ∷ cs) = go (eqb c 0x2D) refl (over_dashes n cs)
  where
    go : (t : Bool) → eqb c 0x2D ≡ t → fence n cs ≡ shift (run cs) (fence n (drop (run cs) cs))
        → fence n (c ∷ cs) ≡ shift (length (pick t (c ∷ take_while (is '-') cs) [])) (fence n (drop (length (pick t (c ∷ take_while (is '-') cs) [])) (c ∷ cs)))
    go true e h =
        let q : c ≡ 0x2D = eqb-true c 0x2D e in
        fence_other n c cs (λ z. omega (arith, q, z)) ∙ ap further h ∙ shift_more (run cs) (fence n (drop (run cs) cs))
    go false e h = shift_none (fence n (c ∷ cs))

-- the search from here is the search from the start
pub record Fencing (n : ℕ) (s : List ℕ) (a b : Cursor) : Type 0 where
  pub seek : Seeking s a b (further (fence n (rest s a))) (further (fence n (rest s b)))

module _ {n : ℕ} {s : List ℕ} {a b : Cursor} (i : Fencing n s a b) {r : Option (ℕ × Cursor)} (h : Seen s b r) where
  pub fencing_over : r ≡ None → SoughtAt s a (further (fence n (rest s a))) None
  fencing_over e = seek_gone i.seek (ap further (ap (fence n) (end_at e h) ∙ fence_none n))

  module _ {c : ℕ} {d : Cursor} (e : r ≡ Some (c, d)) where
    -- one character more
    on_by : fence n (c ∷ rest s d) ≡ further (fence n (rest s d)) → Fencing n s a d
    on_by q = record { seek = seek_on i.seek (char_at e h) (ap further (ap (fence n) (char_at e h).chars ∙ q)) }

    pub fencing_other : (c ≡ 0x0A → ⊥) → Fencing n s a d
    fencing_other q = on_by (fence_other n c (rest s d) q)

    module _ (q : c ≡ 0x0A) {k : Repeated} (g : Counted '-' s d k) where
      pub fencing_found : n ≤ k.count → SoughtAt s a (further (fence n (rest s a))) (Some d)
      fencing_found l =
          let z : rest s b ≡ c ∷ rest s d = (char_at e h).chars in
          seek_at i.seek 1 (arrive (over (char_at e h)) (sym (ap (drop 1) z)))
          (ap further (ap (fence n) z ∙ fence_many n c (rest s d) q (omega (arith, g.count))))

      pub fencing_few : k.count < n → Fencing n s a k.next
      unfolding while
      fencing_few l =
          let j : Fencing n s a d = on_by (fence_few n c (rest s d) q (omega (arith, g.count))) in
          let w = run (rest s d) in
          record {
            seek =
                seek_past j.seek w g.moved
                (ap further (over_dashes n (rest s d)) ∙ shift_further w (fence n (drop w (rest s d))) ∙ ap (λ (x : List ℕ). shift w (further (fence n x))) (sym (left_of g.moved)));
          }

      pub fencing_less : length (rest s k.next) < length (rest s b)
      fencing_less = omega (arith, ap length (char_at e h).chars, no_more g.moved, ap length (left_of g.moved))
