-- Laws of the line of a place.
use Prim.Native.Nat.{ℕ, zero, suc, ◌+◌, ◌≤◌}
use mathlib.Core.Path.{◌≡◌, refl, ap, ◌∙◌}
use Rattle.std.specs.List.{count_by}
use Rattle.std.proofs.lemmas.List.Recursion.{is_count_by}
use mathlib.Core.Bool.{Bool, true, false, cond}
use mathlib.Core.List.{List, [], ◌∷◌}
use lib.Dec.{eqb}
use lib.ListN.{length, take, drop, length-take}
use native.Mathlib.Omega.{arith}
use Rattle.basics.specs.Choice.{pick}
use Rattle.line_feeds.specs.Feeds.{feed, line_feeds, feeds_before}

-- one byte is one LF at the most
feed_few : (b : ℕ) → feed b ≤ 1
feed_few b = go (eqb b 0x0A)
  where
    go : (t : Bool) → pick t 1 0 ≤ 1
    go true = omega arith
    go false = omega arith

-- as std counts them
pub feeds_counted : (s : List ℕ) → line_feeds s ≡ count_by (λ b. eqb b 0x0A) s
feeds_counted = is_count_by line_feeds (λ b. eqb b 0x0A) refl (λ b s. at_test (eqb b 0x0A) (line_feeds s))
  where
    at_test : (t : Bool) (n : ℕ) → pick t 1 0 + n ≡ cond t (1 + n) n
    at_test true n = refl
    at_test false n = omega arith

-- no more LFs than bytes
pub feeds_few : (s : List ℕ) → line_feeds s ≤ length s
feeds_few [] = omega arith
feeds_few (b ∷ s) = omega (arith, feed_few b, feeds_few s)

-- no line is past the number of the bytes before it, nor past the number of all
pub line_few : (s : List ℕ) (at : ℕ) → feeds_before s at ≤ length s
line_few s at = omega (arith, feeds_few (take at s), length-take at s)

-- A LINE FURTHER ON: the LFs in between are added
pub line_on : (s : List ℕ) (n d : ℕ) → feeds_before s (n + d) ≡ feeds_before s n + line_feeds (take d (drop n s))
line_on s zero d =
    let z : 0 + d ≡ d = omega arith in
    ap (feeds_before s) z ∙ omega arith
line_on [] (suc n) d = none (suc n + d) ∙ nothing d
  where
    none : (k : ℕ) → feeds_before [] k ≡ 0
    none zero = refl
    none (suc k) = refl

    nothing : (k : ℕ) → 0 ≡ 0 + line_feeds (take k [])
    nothing zero = refl
    nothing (suc k) = refl
line_on (b ∷ s) (suc n) d =
    let z : suc n + d ≡ suc (n + d) = omega arith in
    ap (feeds_before (b ∷ s)) z ∙ omega (arith, line_on s n d)
