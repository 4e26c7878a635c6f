-- The search for the end of a block comment, in the facts of the code.
use Prim.Native.Nat.{ℕ, zero, suc, ◌+◌, ◌-◌, ◌*◌, ◌^◌, ◌≤◌, ◌<◌}
use mathlib.Core.Path.{◌≡◌, refl, sym, ap, subst, ◌∙◌}
use mathlib.Core.Bool.{Bool, true, false}
use mathlib.Core.List.{List, []}
use mir.Val.{Fits}
use mir.Syntax.{w64}
use lib.Dec.{eqb}
use lib.ListN.{length, get_or, drop}
use native.Mathlib.Omega.{arith}
use borrow.Author.Tests.{eqb-true}
use Rattle.basics.specs.Choice.{pick, and}
use Rattle.eaters.specs.Scan.{go, skip, deeper, shallower, scan}
use Rattle.token.specs.Names.{is, '*', '/'}
use Rattle.token.specs.Comments.{block_turn}
use Rattle.cursor.specs.declared.Cursor.{Cursor}
use Rattle.std.specs.Prelude.{Option, None, Some}
use Rattle.cursor.specs.Cursors.{rest, Here, Seen}
use Rattle.cursor.specs.Moved.{Moved}
use Rattle.cursor.specs.Ran.{Ran}
use Rattle.cursor.proofs.Moves.{char_at, end_at, bumped}
use Rattle.cursor.proofs.Steps.{rest_short}
use Rattle.cursor.proofs.Loops.{Inside, inside_start, inside_on, inside_skip, inside_past, inside_over, inside_found}

-- the turns
not_pair : (c e x y : ℕ) → (c ≡ x → e ≡ y → ⊥) → and (is x c) (is y e) ≡ false
not_pair c e x y n = by (eqb c x) (eqb e y) refl refl
  where
    by : (s t : Bool) → eqb c x ≡ s → eqb e y ≡ t → and s t ≡ false
    by true true p q = absurd (n (eqb-true c x p) (eqb-true e y q))
    by true false p q = refl
    by false t p q = refl

turn_open : (d c e : ℕ) → c ≡ 0x2F → e ≡ 0x2A → block_turn d c e ≡ deeper d
turn_open d c e p q = rw (p, q)

turn_close : (d c e : ℕ) → c ≡ 0x2A → e ≡ 0x2F → block_turn d c e ≡ shallower d
turn_close d c e p q = rw (p, q)

turn_other : (d c e : ℕ) → (c ≡ 0x2F → e ≡ 0x2A → ⊥) → (c ≡ 0x2A → e ≡ 0x2F → ⊥) → block_turn d c e ≡ go d
turn_other d c e n m =
    ap (λ (t : Bool). pick t (deeper d) (pick (and (is '*' c) (is '/' e)) (shallower d) (go d))) (not_pair c e 0x2F 0x2A n)
    ∙ ap (λ (t : Bool). pick t (shallower d) (go d)) (not_pair c e 0x2A 0x2F m)

-- the search began at a; it is at b with this depth, which is at least 1 and has no more than a character taken for each step
pub record Deep (s : List ℕ) (a b : Cursor) (d : ℕ) : Type 0 where
  pub inside : Inside block_turn s a b d
  pub some : 1 ≤ d
  pub few : d + length (rest s b) ≤ 1 + length (rest s a)

pub deep_start : (s : List ℕ) (a : Cursor) → Deep s a a 1
deep_start s a = record { inside = inside_start block_turn s a; some = omega arith; few = omega arith }

-- the steps of the search at a depth that is not 0
on_at : (d : ℕ) {s : List ℕ} {a b n : Cursor} {c : ℕ} (e : ℕ) → 1 ≤ d → Inside block_turn s a b d → Here s b c n → block_turn d c (get_or (rest s n) 0 0) ≡ go e → Inside block_turn s a n e
on_at zero e h i k q = absurd (omega arith)
on_at (suc d) e h i k q = inside_on block_turn i k e q

skip_at : (d : ℕ) {s : List ℕ} {a b n m : Cursor} {c : ℕ} (e : ℕ) → 1 ≤ d → Inside block_turn s a b d → Here s b c n → block_turn d c (get_or (rest s n) 0 0) ≡ skip (suc e) → Moved s n m (drop 1 (rest s n)) → Inside block_turn s a m (suc e)
skip_at zero e h i k q m = absurd (omega arith)
skip_at (suc d) e h i k q m = inside_skip block_turn i k e q m

-- the last one: the character is there
last_at : (d e : ℕ) {s : List ℕ} {a b n m : Cursor} {c y : ℕ} → Inside block_turn s a b d → Here s b c n → block_turn d c (get_or (rest s n) 0 0) ≡ skip e → d ≡ 1
    → y ≡ get_or (rest s n) 0 0 → y ≡ 0x2F → Moved s n m (drop 1 (rest s n)) → Inside block_turn s a m e
last_at zero e i h q o f z k = absurd (omega arith)
last_at (suc d) e i h q o f z k = inside_past block_turn i h e q f (omega arith) k

over_at : (d : ℕ) {s : List ℕ} {a b : Cursor} → 1 ≤ d → Inside block_turn s a b d → rest s b ≡ [] → Ran (scan block_turn 0 1) s a b false
over_at zero h i e = absurd (omega arith)
over_at (suc d) h i e = inside_over block_turn i e

pub end_in : {s : List ℕ} {a b : Cursor} {d : ℕ} {r : Option (ℕ × Cursor)} → r ≡ None → Seen s b r → Deep s a b d → Ran (scan block_turn 0 1) s a b false
end_in {d = d} x h i = over_at d i.some i.inside (end_at x h)

-- THE TURNS, in the facts of the code: the peek's answer and promise, and the character after it
module _ {s : List ℕ} {a b : Cursor} {d c : ℕ} {n : Cursor} {r : Option (ℕ × Cursor)} (x : r ≡ Some (c, n)) (h : Seen s b r) (i : Deep s a b d) where
  pub deeper_fits : length s * 1 < 2 ^ 63 → Fits w64 (d + 1)
  deeper_fits g = record { fits = omega (arith, ap length (char_at x h).chars, i.few, rest_short s a) }

  -- one character that changes nothing
  other : (c ≡ 0x2F → get_or (rest s n) 0 0 ≡ 0x2A → ⊥) → (c ≡ 0x2A → get_or (rest s n) 0 0 ≡ 0x2F → ⊥) → Deep s a n d
  other p q =
      record {
        inside = on_at d d i.some i.inside (char_at x h) (turn_other d c (get_or (rest s n) 0 0) p q);
        some = i.some;
        few = omega (arith, i.few, ap length (char_at x h).chars);
      }

  pub none_in : (c ≡ 0x2F → ⊥) → (c ≡ 0x2A → ⊥) → Deep s a n d
  none_in p q = other (λ y z. p y) (λ y z. q y)

  module _ {e : ℕ} (f : e ≡ get_or (rest s n) 0 0) where
    pub slash_in : c ≡ 0x2F → (e ≡ 0x2A → ⊥) → Deep s a n d
    slash_in p q = other (λ y z. q (f ∙ z)) (λ y z. absurd (omega (arith, p, y)))

    pub star_in : c ≡ 0x2A → (e ≡ 0x2F → ⊥) → Deep s a n d
    star_in p q = other (λ y z. absurd (omega (arith, p, y))) (λ y z. q (f ∙ z))

    module _ {m : Cursor} (k : Moved s n m (drop 1 (rest s n))) where
      two : 0 < e → length (rest s b) ≡ 2 + length (rest s m)
      two p = omega (arith, ap length (char_at x h).chars, ap length (bumped f p k))

      pub open_in : c ≡ 0x2F → e ≡ 0x2A → Deep s a m (d + 1)
      open_in p q =
          let g : Inside block_turn s a m (suc d) = skip_at d d i.some i.inside (char_at x h) (turn_open d c (get_or (rest s n) 0 0) p (sym f ∙ q)) k in
          let w : suc d ≡ d + 1 = omega arith in
          record { inside = subst (Inside block_turn s a m) w g; some = omega arith; few = omega (arith, i.few, two (omega arith)) }

      closing : (o : ℕ) → d ≡ suc o → c ≡ 0x2A → e ≡ 0x2F → block_turn d c (get_or (rest s n) 0 0) ≡ skip o
      closing o w p q = turn_close d c (get_or (rest s n) 0 0) p (sym f ∙ q) ∙ ap shallower w

      pub close_in : c ≡ 0x2A → e ≡ 0x2F → (d ≡ 1 → ⊥) → Deep s a m (d - 1)
      close_in p q o =
          let w : d ≡ suc (suc (d - 2)) = omega (arith, i.some, o) in
          let g : Inside block_turn s a m (suc (d - 2)) = skip_at d (d - 2) i.some i.inside (char_at x h) (closing (suc (d - 2)) w p q) k in
          let v : suc (d - 2) ≡ d - 1 = omega (arith, i.some, o) in
          record { inside = subst (Inside block_turn s a m) v g; some = omega (arith, i.some, o); few = omega (arith, i.few, two (omega arith)) }

      pub last_in : c ≡ 0x2A → e ≡ 0x2F → d ≡ 1 → Ran (scan block_turn 0 1) s a m true
      last_in p q o = inside_found block_turn (last_at d 0 i.inside (char_at x h) (closing 0 o p q) o f q k)
