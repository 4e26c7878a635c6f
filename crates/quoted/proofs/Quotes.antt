-- The scans of quoted literals, in the facts of the code: one law for each way of a turn.
use Prim.Native.Nat.{ℕ}
use mathlib.Core.Path.{◌≡◌, refl, ap, ◌∙◌}
use mathlib.Core.Bool.{Bool, true, false, not}
use mathlib.Core.List.{List}
use mathlib.Core.Logic.{◌⊎◌, inl, inr}
use lib.ListN.{get_or, drop}
use borrow.Author.Tests.{ne_eqb}
use Rattle.basics.specs.Choice.{and}
use Rattle.eaters.specs.Eat.{give, eat, ◌>>◌}
use Rattle.eaters.specs.Scan.{Turn, scan}
use Rattle.token.specs.Names.{is, 'single', '\'}
use Rattle.token.specs.Quotes.{double_turn, single_turn, single}
use Rattle.cursor.specs.declared.Cursor.{Cursor}
use Rattle.std.specs.Prelude.{Option, None, Some}
use Rattle.cursor.specs.Cursors.{rest, Seen}
use Rattle.cursor.specs.Moved.{Moved}
use Rattle.cursor.specs.Ran.{Ran}
use Rattle.cursor.proofs.Moves.{char_at, end_at}
use Rattle.cursor.proofs.Runs.{ran_give, ran_then, ran_eats, ran_both, ran_not_both}
use Rattle.cursor.proofs.Loops.{Inside, inside_on, inside_skip, inside_off, inside_over, inside_found}

-- the text ends
pub over_in : (t : ℕ → ℕ → ℕ → Turn) {s : List ℕ} {a b : Cursor} {r : Option (ℕ × Cursor)} → r ≡ None → Seen s b r → Inside t s a b 1 → Ran (scan t 0 1) s a b false
over_in t e h i = inside_over t i (end_at e h)

-- DOUBLE QUOTES
module _ {s : List ℕ} {a b n : Cursor} {c : ℕ} {r : Option (ℕ × Cursor)} (x : r ≡ Some (c, n)) (h : Seen s b r) (i : Inside double_turn s a b 1) where
  pub double_close : c ≡ 0x22 → Ran (scan double_turn 0 1) s a n true
  double_close p = inside_found double_turn (inside_on double_turn i (char_at x h) 0 (rw p))

  pub double_other : (c ≡ 0x22 → ⊥) → (c ≡ 0x5C → ⊥) → Inside double_turn s a n 1
  double_other p q = inside_on double_turn i (char_at x h) 1 (rw (ne_eqb c 0x22 p, ne_eqb c 0x5C q))

  module _ (z : c ≡ 0x5C) {e : ℕ} (f : e ≡ get_or (rest s n) 0 0) where
    pub double_escaped : {m : Cursor} → (e ≡ 0x22) ⊎ (e ≡ 0x5C) → Moved s n m (drop 1 (rest s n)) → Inside double_turn s a m 1
    double_escaped (inl q) k = inside_skip double_turn i (char_at x h) 0 (rw (z, ← f, q)) k
    double_escaped (inr q) k = inside_skip double_turn i (char_at x h) 0 (rw (z, ← f, q)) k

    pub double_lone : ((e ≡ 0x22) ⊎ (e ≡ 0x5C) → ⊥) → Inside double_turn s a n 1
    double_lone q = inside_on double_turn i (char_at x h) 1 (rw (z, ← f, ne_eqb e 0x5C (λ k. q (inr k)), ne_eqb e 0x22 (λ k. q (inl k))))

-- SINGLE QUOTES
module _ {s : List ℕ} {a b n : Cursor} {c : ℕ} {r : Option (ℕ × Cursor)} (x : r ≡ Some (c, n)) (h : Seen s b r) (i : Inside single_turn s a b 1) where
  pub single_close : c ≡ 0x27 → Ran (scan single_turn 0 1) s a n true
  single_close p = inside_found single_turn (inside_on single_turn i (char_at x h) 0 (rw p))

  pub single_slash : c ≡ 0x2F → Ran (scan single_turn 0 1) s a b false
  single_slash p = inside_off single_turn i (char_at x h) (rw p)

  -- the character after the newline is the second one from where the scan stands
  after_it : {e : ℕ} → e ≡ get_or (rest s b) 1 0 → e ≡ get_or (rest s n) 0 0
  after_it f = f ∙ ap (λ (l : List ℕ). get_or l 1 0) (char_at x h).chars

  pub single_stops : {e : ℕ} → c ≡ 0x0A → e ≡ get_or (rest s b) 1 0 → (e ≡ 0x27 → ⊥) → Ran (scan single_turn 0 1) s a b false
  single_stops {e} p f q = inside_off single_turn i (char_at x h) (rw (p, ← after_it f, ne_eqb e 0x27 q))

  pub single_newline : {e : ℕ} → c ≡ 0x0A → e ≡ get_or (rest s b) 1 0 → e ≡ 0x27 → Inside single_turn s a n 1
  single_newline {e} p f q = inside_on single_turn i (char_at x h) 1 (rw (p, ← after_it f, q))

  pub single_escape : {m : Cursor} → c ≡ 0x5C → Moved s n m (drop 1 (rest s n)) → Inside single_turn s a m 1
  single_escape p k = inside_skip single_turn i (char_at x h) 0 (rw p) k

  pub single_other : (c ≡ 0x27 → ⊥) → (c ≡ 0x2F → ⊥) → (c ≡ 0x0A → ⊥) → (c ≡ 0x5C → ⊥) → Inside single_turn s a n 1
  single_other p q v w = inside_on single_turn i (char_at x h) 1 (rw (ne_eqb c 0x27 p, ne_eqb c 0x2F q, ne_eqb c 0x0A v, ne_eqb c 0x5C w))

-- one character and a quote, or the scan
abbrev unescaped : ℕ → Bool
unescaped c = not (is '\' c)

module _ {s : List ℕ} {a : Cursor} {d : ℕ} (f : d ≡ get_or (rest s a) 1 0) where
  pub single_scan : {b : Cursor} {t : Bool} → (d ≡ 0x27 → ⊥) → Ran (scan single_turn 0 1) s a b t → Ran single s a b t
  single_scan p r = ran_not_both _ (scan single_turn 0 1) unescaped (is 'single') refl f (last (unescaped (get_or (rest s a) 0 0)) (ne_eqb d 0x27 p)) r
    where
      last : (t : Bool) {u : Bool} → u ≡ false → and t u ≡ false
      last true q = q
      last false q = refl

  module _ (p : d ≡ 0x27) {c : ℕ} (e : c ≡ get_or (rest s a) 0 0) where
    pub single_escaped : {b : Cursor} {t : Bool} → c ≡ 0x5C → Ran (scan single_turn 0 1) s a b t → Ran single s a b t
    single_escaped q r = ran_not_both _ (scan single_turn 0 1) unescaped (is 'single') e f (rw q) r

    pub single_one : {n : Cursor} → (c ≡ 0x5C → ⊥) → Moved s a n (drop 2 (rest s a)) → Ran single s a n true
    single_one {n} q m = ran_both (eat 2 >> give true) _ unescaped (is 'single') e f (rw (ne_eqb c 0x5C q, p)) (ran_then (ran_eats 2 m) (ran_give true s n))
