-- Two parts of a text that stand apart: characters, the machine, CR CR LF and hidden marks in the whole are those of the parts, one after the other.
use Rattle.std.specs.Prelude.{Option, None, Some}
use Prim.Native.Nat.{ℕ, ◌+◌, ◌≤◌}
use mathlib.Core.Path.{◌≡◌, refl, sym, ap, ◌∙◌}
use mathlib.Core.List.{List, [], ◌∷◌, ◌++◌}
use mathlib.Core.Bool.{Bool, true, false}
use lib.ListN.{length}
use native.Mathlib.Omega.{arith}
use Rattle.basics.specs.Choice.{pick}
use Rattle.text.specs.Chars.{chars, size, width, WellFormed}
use Rattle.eaters.specs.Find.{Place, at, nowhere, or_else}
use Rattle.places.specs.Shifts.{shifted}
use Rattle.token.specs.Lists.{Lists}
use Rattle.line_ends.specs.LineEnds.{replaced}
use Rattle.line_ends.proofs.Coded.{un_chars, un_well}
use Rattle.marks.specs.Marks.{hidden, mark_from, hidden_mark}
use Rattle.machine.specs.Streams.{Fed}
use Rattle.machine.specs.declared.State.{State}
use Rattle.machine.specs.Pieces.{read, feed}
use Rattle.machine.proofs.Streams.{feed_append}
use Rattle.waits.proofs.Apart.{Apart, replaced_apart}
use Rattle.waits.proofs.Joins.{chars_append, well_append}
use Rattle.key_state.specs.Kept.{kept_bytes, to_kept}
use Rattle.key_state.specs.Reads.{first_found}

-- one after the other
abbrev pub and_then : {S : Type 0} → Fed S → (S → Fed S) → Fed S
and_then f g = record { out = f.out ++ (g f.state).out; state = (g f.state).state }

-- LINE ENDS, in characters
pub replaced_parts : (s t : List ℕ) → WellFormed s → WellFormed t → Apart s t → replaced (chars (s ++ t)) ≡ replaced (chars s) ++ replaced (chars t)
replaced_parts s t w v h =
    sym (un_chars (s ++ t) (well_append s t w v)) ∙ ap chars (replaced_apart s t h) ∙ chars_append (replaced s) (replaced t) (un_well s w)
    ∙ ap (λ (x : List ℕ). x ++ chars (replaced t)) (un_chars s w) ∙ ap (λ (x : List ℕ). replaced (chars s) ++ x) (un_chars t v)

-- THE MACHINE
pub fed_parts : (L : Lists) (m : State) (s t : List ℕ) → WellFormed s → WellFormed t → Apart s t
    → feed L m (replaced (chars (s ++ t))) ≡ and_then (feed L m (replaced (chars s))) (λ n. feed L n (replaced (chars t)))
fed_parts L m s t w v h = ap (feed L m) (replaced_parts s t w v h) ∙ feed_append (read L) m (replaced (chars s)) (replaced (chars t))

-- MARKS: from another place on
mark_shift : (k p : ℕ) (cs : List ℕ) → mark_from (k + p) cs ≡ shifted k (mark_from p cs)
mark_shift k p [] = refl
mark_shift k p (c ∷ cs) =
    let z : k + p + width c ≡ k + (p + width c) = omega arith in
    ap (λ (q : Place). pick (hidden c) (at (k + p)) q) (ap (λ (n : ℕ). mark_from n cs) z ∙ mark_shift k (p + width c) cs) ∙ go (hidden c)
  where
    go : (t : Bool) → pick t (at (k + p)) (shifted k (mark_from (p + width c) cs)) ≡ shifted k (pick t (at p) (mark_from (p + width c) cs))
    go true = refl
    go false = refl

mark_append : (p : ℕ) (a b : List ℕ) → mark_from p (a ++ b) ≡ or_else (mark_from p a) (mark_from (p + size a) b)
mark_append p [] b = let z : p ≡ p + 0 = omega arith in ap (λ (n : ℕ). mark_from n b) z
mark_append p (c ∷ a) b =
    let z : p + width c + size a ≡ p + (width c + size a) = omega arith in
    ap (λ (q : Place). pick (hidden c) (at p) q) (mark_append (p + width c) a b ∙ ap (λ (n : ℕ). or_else (mark_from (p + width c) a) (mark_from n b)) z) ∙ go (hidden c)
  where
    go : (t : Bool) → pick t (at p) (or_else (mark_from (p + width c) a) (mark_from (p + (width c + size a)) b)) ≡ or_else (pick t (at p) (mark_from (p + width c) a)) (mark_from (p + (width c + size a)) b)
    go true = refl
    go false = refl

pub mark_parts : (s t : List ℕ) → WellFormed s → hidden_mark (s ++ t) ≡ or_else (hidden_mark s) (shifted (length s) (hidden_mark t))
mark_parts s t w =
    let z : 0 + size (chars s) ≡ length s + 0 = omega (arith, w) in
    ap (mark_from 0) (chars_append s t w) ∙ mark_append 0 (chars s) (chars t)
    ∙ ap (or_else (hidden_mark s)) (ap (λ (n : ℕ). mark_from n (chars t)) z ∙ mark_shift (length s) 0 (chars t))

-- WHAT IS FOUND FIRST
pub found_parts : (old : Option ℕ) (base n : ℕ) (p q : Place) → first_found old base (or_else p (shifted n q)) ≡ first_found (first_found old base p) (base + n) q
found_parts (Some k) base n p q = refl
found_parts None base n (at k) q = refl
found_parts None base n nowhere (at k) = ap Some (omega arith)
found_parts None base n nowhere nowhere = refl

pub found_none : (old : Option ℕ) (base : ℕ) → first_found old base nowhere ≡ old
found_none (Some k) base = refl
found_none None base = refl

-- BYTES THAT WAIT
pub kept_again : (k : List ℕ) → length k ≤ 3 → kept_bytes (to_kept k) ≡ k
kept_again [] h = refl
kept_again (a ∷ []) h = refl
kept_again (a ∷ b ∷ []) h = refl
kept_again (a ∷ b ∷ c ∷ []) h = refl
kept_again (a ∷ b ∷ c ∷ d ∷ k) h = absurd (omega (arith, h))
