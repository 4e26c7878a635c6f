-- One line: where it ends, and what the reader makes of it.
use Prim.Native.Nat.{ℕ, suc, ◌+◌, ◌≤◌, ◌<◌}
use mathlib.Core.Path.{◌≡◌, refl, sym, ap, ◌∙◌}
use mathlib.Core.Bool.{Bool, true, false}
use mathlib.Core.List.{List, [], ◌∷◌}
use borrow.Author.Tests.{lt-ltb, le-ltb}
use lib.Dec.{ltb}
use lib.ListN.{length}
use native.Mathlib.Omega.{arith}
use mathlib.Core.Logic.{⊎_elim}
use Rattle.basics.specs.Choice.{pick}
use Rattle.basics.specs.Tests.{is_in}
use Rattle.basics.proofs.Choices.{below_or_not}
use Rattle.fields.specs.Pieces.{piece, after, parted, Parted}
use Rattle.fields.proofs.Cuts.{Cut, cut_at, Uncut, no_cut}
use Rattle.token.specs.Lists.{Lists}
use Rattle.lists_file.specs.declared.Version.{Version}
use Rattle.lists_file.specs.declared.Entry.{Entry}
use Rattle.std.specs.Prelude.{Option, None, Some}
use Rattle.lists_file.specs.Lines.{record_of}
use Rattle.lists_file.specs.Load.{Read, loaded, bad_line, added, load_from, load_at}
use Rattle.lists_in.specs.Surveys.{step_from, step_of}

-- WHAT A STEP SAYS: a record in a line that ends with LF
pub record Told (at : ℕ) (t : List ℕ) (e : Entry) (next : ℕ) : Type 0 where
  pub cut : Cut 10 t
  pub said : record_of (piece 10 t) ≡ Some e
  pub past : next ≡ at + length (piece 10 t) + 1

pub marked_cut : (t : List ℕ) → is_in t 10 ≡ true → Cut 10 t
marked_cut t e =
    ⊎_elim
    (λ (h : length (piece 10 t) < length t). cut_at 10 t h)
    (λ (h : length t ≤ length (piece 10 t)). let u : is_in t 10 ≡ false = (no_cut 10 t h).unmarked in absurd (cc))
    (below_or_not (length (piece 10 t)) (length t))

pub unmarked_uncut : (t : List ℕ) → is_in t 10 ≡ false → Uncut 10 t
unmarked_uncut t e =
    ⊎_elim
    (λ (h : length (piece 10 t) < length t). let c : is_in t 10 ≡ true = (cut_at 10 t h).marked in absurd (cc))
    (λ (h : length t ≤ length (piece 10 t)). no_cut 10 t h)
    (below_or_not (length (piece 10 t)) (length t))

pub step_told : (at : ℕ) (t : List ℕ) {e : Entry} {next : ℕ} → step_of at t ≡ Some (e, next) → Told at t e next
step_told at t {e} {next} p = by_line (is_in t 10) refl (record_of (piece 10 t)) refl p
  where
    by_line : (b : Bool) → is_in t 10 ≡ b → (l : Option Entry) → record_of (piece 10 t) ≡ l → pick b (step_from (at + length (piece 10 t) + 1) l) None ≡ Some (e, next) → Told at t e next
    by_line true m (Some f) q r = let z : (f, at + length (piece 10 t) + 1) ≡ (e, next) = cc in record { cut = marked_cut t m; said = q ∙ ap (λ (x : Entry × ℕ). Some x.0) z; past = sym (ap (λ (x : Entry × ℕ). x.1) z) }
    by_line true m None q r = absurd (cc)
    by_line false m l q r = absurd (cc)

-- THE READER over one line
abbrev line_read : (index group : ℕ) → Version → Lists → Option Entry → List ℕ → Read
line_read index group v L l t =
    elim l [ Some e ↦ pick (ltb e.which group) (bad_line index) (load_at (suc index) e.which v (added e.which e.low e.high L) t) | None ↦ bad_line index ]

module _ (index group : ℕ) (v : Version) (L : Lists) where
  load_line : (t : List ℕ) → Cut 10 t → load_at index group v L t ≡ line_read index group v L (record_of (piece 10 t)) (after 10 t)
  unfolding load_from
  load_line t c = ap (λ (p : Parted). load_from index group v L p.ended p.rest) c.parts_on

  -- what has no LF at its end is a bad line, unless it is nothing
  load_unended : (t : List ℕ) → 0 < length t → Uncut 10 t → load_at index group v L t ≡ bad_line index
  unfolding load_from
  load_unended [] h u = absurd (omega arith)
  load_unended (c ∷ t) h u = ap (λ (p : Parted). load_from index group v L p.ended p.rest) u.no_parts

  pub load_none : (t : List ℕ) → length t ≡ 0 → load_at index group v L t ≡ loaded v L
  unfolding load_from parted
  load_none [] h = refl
  load_none (c ∷ t) h = absurd (omega arith)

  pub load_bad : (at : ℕ) (t : List ℕ) → 0 < length t → step_of at t ≡ None → load_at index group v L t ≡ bad_line index
  load_bad at t h p = by_line (is_in t 10) refl (record_of (piece 10 t)) refl p
    where
      by_line : (b : Bool) → is_in t 10 ≡ b → (l : Option Entry) → record_of (piece 10 t) ≡ l → pick b (step_from (at + length (piece 10 t) + 1) l) None ≡ None → load_at index group v L t ≡ bad_line index
      by_line true m (Some f) q r = absurd (cc)
      by_line true m None q r = load_line t (marked_cut t m) ∙ ap (λ (l : Option Entry). line_read index group v L l (after 10 t)) q
      by_line false m l q r = load_unended t h (unmarked_uncut t m)

  module _ (at : ℕ) (t : List ℕ) {e : Entry} {next : ℕ} (d : Told at t e next) where
    read_on : load_at index group v L t ≡ pick (ltb e.which group) (bad_line index) (load_at (suc index) e.which v (added e.which e.low e.high L) (after 10 t))
    read_on = load_line t d.cut ∙ ap (λ (l : Option Entry). line_read index group v L l (after 10 t)) d.said

    -- a record of an earlier list is a bad line
    pub load_back : e.which < group → load_at index group v L t ≡ bad_line index
    load_back h = read_on ∙ rw (lt-ltb e.which group h) refl

    -- and any other is read
    pub load_on : group ≤ e.which → load_at index group v L t ≡ load_at (suc index) e.which v (added e.which e.low e.high L) (after 10 t)
    load_on h = read_on ∙ rw (le-ltb e.which group h) refl
