-- Texts that differ only in CR LF for LF are replaced by the same text, where CR CR LF stands in neither.
use Prim.Native.Nat.{ℕ}
use mathlib.Core.Path.{◌≡◌, refl, ap}
use mathlib.Core.List.{List, ◌∷◌}
use mathlib.Core.Bool.{Bool, true, false}
use Rattle.basics.specs.Choice.{and}
use Rattle.eaters.specs.Find.{nowhere}
use Rattle.token.specs.Names.{is, 'newline', 'carriage_return'}
use Rattle.line_ends.specs.LineEnds.{cr_lf, replaced, double_return}
use Rattle.line_ends.proofs.Replaced.{none_here, none_further}
use Rattle.line_ends.specs.Twins.{Twins, none, same, former, latter}

-- a CR right before CR LF is CR CR LF
before_pair : (c : ℕ) (s : List ℕ) → double_return (c ∷ 'carriage_return' ∷ 'newline' ∷ s) ≡ nowhere → is 'carriage_return' c ≡ false
before_pair c s e = go (is 'carriage_return' c) (none_here c ('carriage_return' ∷ 'newline' ∷ s) e)
  where
    go : (t : Bool) → and t true ≡ false → t ≡ false
    go true h = h
    go false h = refl

-- so both have CR LF at the front, or neither has
front : (c : ℕ) {s t : List ℕ} → Twins s t → double_return (c ∷ s) ≡ nowhere → double_return (c ∷ t) ≡ nowhere → cr_lf c s ≡ cr_lf c t
front c none d e = refl
front c (same w) d e = refl
front c (former {s} w) d e = rw (before_pair c s d)
front c (latter {s} {t} w) d e = rw (before_pair c t e)

pub twins_replaced : {s t : List ℕ} → Twins s t → double_return s ≡ nowhere → double_return t ≡ nowhere → replaced s ≡ replaced t
twins_replaced none d e = refl
twins_replaced (same {c} {s} {t} w) d e =
    rw (front c w d e, twins_replaced w (none_further c s d) (none_further c t e))
twins_replaced (former {s} {t} w) d e = ap (λ (l : List ℕ). 'newline' ∷ l) (twins_replaced w (none_further 'newline' s (none_further 'carriage_return' ('newline' ∷ s) d)) (none_further 'newline' t e))
twins_replaced (latter {s} {t} w) d e = ap (λ (l : List ℕ). 'newline' ∷ l) (twins_replaced w (none_further 'newline' s d) (none_further 'newline' t (none_further 'carriage_return' ('newline' ∷ t) e)))
