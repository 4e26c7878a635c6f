-- HIDDEN MARKS BY THEIR BYTES: each begins with E2; and in a text of UTF-8 the first place at which one stands, of all places, is the place of the first
-- character that is one.
use Prim.Native.Nat.{ℕ, zero, suc, ◌+◌, ◌≤◌}
use mathlib.Core.Path.{◌≡◌, refl, sym, ap, ◌∙◌}
use mathlib.Core.Bool.{Bool, true, false}
use mathlib.Core.List.{List, [], ◌∷◌, ◌++◌}
use lib.ListN.{length, get_or, drop, length-drop}
use lib.Seq.{get_or-drop}
use borrow.Author.Tests.{lt-ltb, le-ltb}
use native.Mathlib.Omega.{arith}
use Rattle.basics.specs.Choice.{pick}
use Rattle.basics.proofs.Choices.{within_true}
use Rattle.text.specs.declared.Decoded.{Decoded}
use Rattle.text.specs.declared.Decoded.TheVariants.{Char, End, Ill}
use Rattle.text.specs.Utf8.{decoded}
use Rattle.text.specs.Chars.{chars, width, size, encode_one, WellFormed}
use Rattle.text.proofs.Coding.{Fact}
use Rattle.text.proofs.Texts.{told, by_chars}
use Rattle.text.proofs.Positions.{shape}
use Rattle.eaters.specs.Find.{at, nowhere, find}
use Rattle.eaters.proofs.Firsts.{First, Never, find_first, find_never}
use Rattle.places.specs.Shifts.{shifted}
use Rattle.places.proofs.Searches.{shifted_none, shifted_more, NoneBefore, none_before, found_here, none_here}
use Rattle.marks.specs.Marks.{hidden, mark_from, hidden_mark}
use Rattle.marks.specs.Front.{is_mark, mark_at}
use Rattle.marks.proofs.Ranges.{mark_range}

-- the first byte of a mark's three
first_byte : (c : ℕ) (t : List ℕ) → hidden c ≡ true → get_or (encode_one c ++ t) 0 0 ≡ 0xE2
unfolding encode_one
first_byte c t e =
    let w = mark_range c e in
    rw (le-ltb c 0x80 (omega (arith, w.least)), le-ltb c 0x800 (omega (arith, w.least)), lt-ltb c 0x10000 (omega (arith, w.most))) (omega (arith, w.least, w.most))

mark_byte : (s : List ℕ) (d : Decoded) → decoded s ≡ d → is_mark d ≡ true → get_or s 0 0 ≡ 0xE2
mark_byte s (Char c w) e h =
    let f : Fact s c w = told s e in
    ap (λ (l : List ℕ). get_or l 0 0) (sym f.coded) ∙ first_byte c (drop w s) h
mark_byte s End e h = let z : ◌≡◌ {A = ℕ} 0 1 = cc in absurd (omega arith)
mark_byte s (Ill k) e h = let z : ◌≡◌ {A = ℕ} 0 1 = cc in absurd (omega arith)

-- ANOTHER FIRST BYTE, and it is none
pub other_byte : (s : List ℕ) → (get_or s 0 0 ≡ 0xE2 → ⊥) → mark_at s ≡ false
other_byte s n = go (mark_at s) (λ e. mark_byte s (decoded s) refl e)
  where
    go : (t : Bool) → (t ≡ true → get_or s 0 0 ≡ 0xE2) → t ≡ false
    go true f = absurd (n (f refl))
    go false f = refl

-- the same at a place
pub other_at : (s : List ℕ) (i : ℕ) → (get_or s i 0 ≡ 0xE2 → ⊥) → mark_at (drop i s) ≡ false
other_at s i n = other_byte (drop i s) (λ e. n (sym (ap (λ (k : ℕ). get_or s k 0) (omega arith)) ∙ sym (get_or-drop i s 0 0) ∙ e))

-- past the first byte of a character nothing stands inside it
inside : (s : List ℕ) {c w : ℕ} → decoded s ≡ Char c w → hidden c ≡ false → (k : ℕ) → suc k ≤ w → NoneBefore mark_at s (suc k)
inside s {c} {w} e h zero l =
    let f : Fact s c w = told s e in
    none_here mark_at s 0 (none_before mark_at s) (omega (arith, f.room, f.some)) (ap is_mark e ∙ h)
inside s {c} {w} e h (suc k) l =
    let f : Fact s c w = told s e in
    let t = within_true 0x80 0xBF (get_or s (suc k) 0) ((shape s e).others (suc k) (omega arith) (omega arith)) in
    let a : suc k + 1 ≡ suc (suc k) = omega arith in
    rw a at (none_here mark_at s (suc k) (inside s e h k (omega arith)) (omega (arith, f.room)) (other_at s (suc k) (λ q. omega (arith, t.most))))

-- no bytes have none
pub mark_empty : (s : List ℕ) → length s ≡ 0 → find mark_at s ≡ nowhere
unfolding find decoded
mark_empty [] l = refl
mark_empty (a ∷ s) l = absurd (omega arith)

-- IN A TEXT OF UTF-8 the first of all places is that of the first character
pub mark_places : (s : List ℕ) → WellFormed s → (p : ℕ) → shifted p (find mark_at s) ≡ mark_from p (chars s)
mark_places = by_chars (λ (s : List ℕ). WellFormed s → (p : ℕ) → shifted p (find mark_at s) ≡ mark_from p (chars s)) none more
  where
    none : (s : List ℕ) → chars s ≡ [] → WellFormed s → (p : ℕ) → shifted p (find mark_at s) ≡ mark_from p (chars s)
    none s n v p = rw n (ap (shifted p) (mark_empty s (sym v ∙ ap size n)))

    more : (s : List ℕ) (c w : ℕ) → decoded s ≡ Char c w → Fact s c w → chars s ≡ c ∷ chars (drop w s) → (WellFormed (drop w s) → (p : ℕ) → shifted p (find mark_at (drop w s)) ≡ mark_from p (chars (drop w s)))
        → WellFormed s → (p : ℕ) → shifted p (find mark_at s) ≡ mark_from p (chars s)
    more s c w e f n ih v p = rw n (go (hidden c) refl)
      where
        later : WellFormed (drop w s)
        later = let m : size (chars s) ≡ width c + size (chars (drop w s)) = ap size n in omega (arith, f.wide, length-drop w s)

        go : (t : Bool) → hidden c ≡ t → shifted p (find mark_at s) ≡ pick t (at p) (mark_from (p + width c) (chars (drop w s)))
        go true h = ap (shifted p) (found_here mark_at s 0 (none_before mark_at s) (omega (arith, f.room, f.some)) (ap is_mark e ∙ h)) ∙ ap at (omega arith)
        go false h = ap (shifted p) (past w refl) ∙ shifted_more p w (find mark_at (drop w s)) ∙ ap (λ (m : ℕ). shifted (p + m) (find mark_at (drop w s))) (sym f.wide) ∙ ih later (p + width c)
          where
            past : (k : ℕ) → k ≡ w → find mark_at s ≡ shifted w (find mark_at (drop w s))
            past zero q = absurd (omega (arith, f.some))
            past (suc k) q = rw q at (inside s e h k (omega arith))

pub mark_place : (s : List ℕ) → WellFormed s → find mark_at s ≡ hidden_mark s
mark_place s v = sym (shifted_none (find mark_at s)) ∙ mark_places s v 0

-- so that a mark stands at the place beside 11, and none before it; and none anywhere in a text that is not refused so
pub mark_first : (s : List ℕ) {k : ℕ} → WellFormed s → hidden_mark s ≡ at k → First mark_at s k
mark_first s v e = find_first mark_at s (mark_place s v ∙ e)

pub mark_never : (s : List ℕ) → WellFormed s → hidden_mark s ≡ nowhere → Never mark_at s
mark_never s v e = find_never mark_at s (mark_place s v ∙ e)
