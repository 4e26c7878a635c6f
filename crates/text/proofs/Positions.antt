-- Positions: a boundary separates the characters, and the byte there shows it.
use Prim.Native.Nat.{ℕ, ◌+◌, ◌-◌, ◌≤◌, ◌<◌}
use mathlib.Core.Path.{◌≡◌, refl, sym, ap, subst, ◌∙◌}
use mathlib.Core.List.{List, [], ◌∷◌, ◌++◌}
use mathlib.Core.Logic.{◌⊎◌, inl, inr, ⊎_elim}
use mathlib.Core.Bool.{Bool, true, false, not}
use borrow.Author.Tests.{eq-eqb, ne_eqb, lt-ltb, le-ltb, le-leb, lt-leb, eqb-true, leb-true}
use lib.Dec.{eqb, leb}
use lib.ListN.{length, get_or, drop, length-drop}
use lib.Seq.{get_or-drop, drop-drop}
use native.Mathlib.Omega.{arith}
use Rattle.basics.specs.Choice.{and, or}
use Rattle.basics.specs.Tests.{within}
use Rattle.basics.proofs.Choices.{below_or_not, and_1, and_2, inside_within, under_within, over_within}
use Rattle.text.specs.declared.Decoded.{Decoded}
use Rattle.text.specs.declared.Decoded.TheVariants.{Char, End, Ill}
use Rattle.text.specs.Utf8.{decoded}
use Rattle.text.specs.Next.{Tail}
use Rattle.text.specs.Chars.{chars, width, size, WellFormed}
use Rattle.text.specs.Position.{edge, on_boundary, starts_here}
use Rattle.text.proofs.Views.{View, end, ill, one, two, three, four, view}
use Rattle.text.proofs.Coding.{Fact}
use Rattle.text.proofs.Texts.{by_chars}

-- the characters before a boundary, and those from it on
pub record Parted (s : List ℕ) (at : ℕ) : Type 0 where
  pub before : List ℕ
  pub joined : before ++ chars (drop at s) ≡ chars s
  pub bytes : size before ≡ at

edge_start : (cs : List ℕ) → edge cs 0 ≡ true
unfolding edge
edge_start [] = refl
edge_start (c ∷ cs) = refl

none_before : (s : List ℕ) → Parted s 0
none_before s = record { before = []; joined = refl; bytes = refl }

edge_cases : (c : ℕ) (cs : List ℕ) (at : ℕ) → edge (c ∷ cs) at ≡ true → (at ≡ 0) ⊎ ((width c ≤ at) × (edge cs (at - width c) ≡ true))
unfolding edge
edge_cases c cs at e = go (eqb at 0) refl e
  where
    go : (t : Bool) → eqb at 0 ≡ t → or t (and (leb (width c) at) (edge cs (at - width c))) ≡ true → (at ≡ 0) ⊎ ((width c ≤ at) × (edge cs (at - width c) ≡ true))
    go true q r = inl (eqb-true at 0 q)
    go false q r = inr (leb-true (width c) at (and_1 _ _ r), and_2 (leb (width c) at) _ r)

-- a boundary parts the characters of a text
pub boundary_parts : (s : List ℕ) (at : ℕ) → on_boundary s at ≡ true → Parted s at
boundary_parts = by_chars (λ (s : List ℕ). (at : ℕ) → on_boundary s at ≡ true → Parted s at)
    (λ s n at e. at_none s at (rw n at e))
    (λ s c w d f n ih at e. ⊎_elim (λ z. rw z (none_before s)) (λ q. more s c w f n at q.0 (ih (at - w) (rw f.wide at q.1))) (edge_cases c (chars (drop w s)) at (rw n at e)))
  where
    at_none : (s : List ℕ) (at : ℕ) → edge [] at ≡ true → Parted s at
    at_none s at e = let z : at ≡ 0 = eqb-true at 0 (unfold edge in e) in rw z (none_before s)

    more : (s : List ℕ) (c w : ℕ) → Fact s c w → chars s ≡ c ∷ chars (drop w s) → (at : ℕ) → width c ≤ at → Parted (drop w s) (at - w) → Parted s at
    more s c w f n at l p =
        let j : w + (at - w) ≡ at = omega (arith, f.wide) in
        let k : drop (at - w) (drop w s) ≡ drop at s = drop-drop (at - w) w s ∙ ap (λ (m : ℕ). drop m s) j in
        record { before = c ∷ p.before; joined = ap (λ (l : List ℕ). c ∷ l) (ap (λ (t : List ℕ). p.before ++ chars t) (sym k) ∙ p.joined) ∙ sym n; bytes = rw (f.wide, p.bytes) j }

-- the first byte of a character is not a tail, and the others are
pub record Shape (s : List ℕ) (w : ℕ) : Type 0 where
  pub first : within 0x80 0xBF (get_or s 0 0) ≡ false
  pub others : (k : ℕ) → 0 < k → k < w → within 0x80 0xBF (get_or s k 0) ≡ true

abbrev ShapeOf : List ℕ → Decoded → Type 0
ShapeOf s (Char c w) = Shape s w
ShapeOf s End = Unit {0}
ShapeOf s (Ill k) = Unit {0}

is_tail : {b : ℕ} → Tail b → within 0x80 0xBF b ≡ true
is_tail {b} t = inside_within 0x80 0xBF b t.least t.most

shape_of : {s : List ℕ} {d : Decoded} → View s d → ShapeOf s d
shape_of end = tt
shape_of ill = tt
shape_of (one {a} h) = record { first = under_within 0x80 0xBF a (omega arith); others = λ k p q. absurd (omega arith) }
shape_of (two {a} {b} {s} l h tb) =
    record { first = over_within 0x80 0xBF a (omega arith) (omega arith); others = λ k p q. let e : k ≡ 1 = omega arith in rw e (is_tail tb) }
shape_of (three {a} {b} {c} {s} l h tb tc m sc) = record { first = over_within 0x80 0xBF a (omega arith) (omega arith); others = others }
  where
    others : (k : ℕ) → 0 < k → k < 3 → within 0x80 0xBF (get_or (a ∷ b ∷ c ∷ s) k 0) ≡ true
    others k p q = ⊎_elim (λ j. let e : k ≡ 1 = omega arith in rw e (is_tail tb)) (λ j. let e : k ≡ 2 = omega arith in rw e (is_tail tc)) (below_or_not k 2)
shape_of (four {a} {b} {c} {d} {s} l h tb tc td m t) = record { first = over_within 0x80 0xBF a (omega arith) (omega arith); others = others }
  where
    others : (k : ℕ) → 0 < k → k < 4 → within 0x80 0xBF (get_or (a ∷ b ∷ c ∷ d ∷ s) k 0) ≡ true
    others k p q =
        ⊎_elim (λ j. let e : k ≡ 1 = omega arith in rw e (is_tail tb))
        (λ i. ⊎_elim (λ j. let e : k ≡ 2 = omega arith in rw e (is_tail tc)) (λ j. let e : k ≡ 3 = omega arith in rw e (is_tail td)) (below_or_not k 3)) (below_or_not k 2)

pub shape : (s : List ℕ) {c w : ℕ} → decoded s ≡ Char c w → Shape s w
shape s e = subst (λ (d : Decoded). ShapeOf s d) e (shape_of (view s))

-- the byte at a position, by where the position is
module _ (s : List ℕ) (at : ℕ) where
  pub here_end : at ≡ length s → true ≡ starts_here s at
  unfolding starts_here
  here_end h = sym (rw (eq-eqb at (length s) h))

  pub here_past : length s < at → false ≡ starts_here s at
  unfolding starts_here
  here_past h = sym (rw (ne_eqb at (length s) (λ e. omega arith), le-ltb at (length s) (omega arith)))

  here_byte : at < length s → not (within 0x80 0xBF (get_or s at 0)) ≡ starts_here s at
  unfolding starts_here
  here_byte h = sym (rw (ne_eqb at (length s) (λ e. omega arith), lt-ltb at (length s) h))

-- past a character of w bytes nothing changes
here_on : (s : List ℕ) (w at : ℕ) → w ≤ at → w ≤ length s → starts_here (drop w s) (at - w) ≡ starts_here s at
here_on s w at l r =
    let n : length (drop w s) ≡ length s - w = length-drop w s in
    ⊎_elim (λ h. sym (here_byte (drop w s) (at - w) (omega arith)) ∙ ap (λ (b : ℕ). not (within 0x80 0xBF b)) (get_or-drop w s (at - w) 0 ∙ ap (λ (k : ℕ). get_or s k 0) (omega arith)) ∙ here_byte s at h)
    (λ h. ⊎_elim (λ k. sym (here_past (drop w s) (at - w) (omega arith)) ∙ here_past s at k) (λ k. sym (here_end (drop w s) (at - w) (omega arith)) ∙ here_end s at (omega arith)) (below_or_not (length s) at))
    (below_or_not at (length s))

edge_in : (c : ℕ) (cs : List ℕ) (at : ℕ) → 0 < at → at < width c → edge (c ∷ cs) at ≡ false
unfolding edge
edge_in c cs at p q = rw (ne_eqb at 0 (λ e. omega arith), lt-leb (width c) at q)

edge_on : (c : ℕ) (cs : List ℕ) (at : ℕ) → 0 < at → width c ≤ at → edge (c ∷ cs) at ≡ edge cs (at - width c)
unfolding edge
edge_on c cs at p q = rw (ne_eqb at 0 (λ e. omega arith), le-leb (width c) at q)

nothing : (s : List ℕ) → length s ≡ 0 → (at : ℕ) → edge [] at ≡ starts_here s at
unfolding edge
nothing s n at =
    ⊎_elim (λ h. rw (eq-eqb at 0 (omega arith)) (here_end s at (omega arith)))
    (λ h. rw (ne_eqb at 0 (λ e. omega arith)) (here_past s at (omega arith))) (below_or_not at 1)

character : (s : List ℕ) (c w : ℕ) → Shape s w → Fact s c w → (at : ℕ) → ((k : ℕ) → edge (chars (drop w s)) k ≡ starts_here (drop w s) k) → edge (c ∷ chars (drop w s)) at ≡ starts_here s at
character s c w g f at ih =
    let q : width c ≡ w = f.wide in
    ⊎_elim (λ h. let z : at ≡ 0 = omega arith in rw z (edge_start (c ∷ chars (drop w s)) ∙ sym (ap not g.first) ∙ here_byte s 0 (omega (arith, f.room, f.some))))
    (λ h. ⊎_elim (λ k. edge_in c _ at h (omega arith) ∙ sym (ap not (g.others at h k)) ∙ here_byte s at (omega (arith, f.room)))
    (λ k. edge_on c _ at h (omega arith) ∙ ap (λ (m : ℕ). edge (chars (drop w s)) (at - m)) q ∙ ih (at - w) ∙ here_on s w at k f.room) (below_or_not at w))
    (below_or_not at 1)

-- IN A WELL-FORMED TEXT a position is on a boundary exactly where it is the end or its byte is not a tail
pub boundary_byte : (s : List ℕ) → WellFormed s → (at : ℕ) → on_boundary s at ≡ starts_here s at
boundary_byte = by_chars (λ (s : List ℕ). WellFormed s → (at : ℕ) → on_boundary s at ≡ starts_here s at)
    (λ s n v at. rw n (nothing s (sym v ∙ ap size n) at))
    (λ s c w d f n ih v at. rw n (character s c w (shape s d) f at (ih (tail_well s c w f n v))))
  where
    tail_well : (s : List ℕ) (c w : ℕ) → Fact s c w → chars s ≡ c ∷ chars (drop w s) → WellFormed s → WellFormed (drop w s)
    tail_well s c w f n v = let m : size (chars s) ≡ width c + size (chars (drop w s)) = ap size n in omega (arith, f.wide, length-drop w s)
