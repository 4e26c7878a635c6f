-- Document 01, "What the build takes and what it leaves": the rules of a lent list, and which pair is named where one is broken.
use Rattle.std.specs.Prelude.{ℕ, suc, ◌/◌, ◌≡◌, List, [], ◌∷◌, Bool, not, length, ltb, leb, Option, None, Some, Err}
use Rattle.basics.specs.Choice.{pick, and}
use Rattle.refusal.specs.declared.Bad.TheVariants as bad
use Rattle.refusal.specs.Verdict.{Verdict, fine}

-- the pair covers one of the points from first to last
unfoldable pub meets : (first last low high : ℕ) → Bool
meets first last low high = and (leb low last) (leb first high)

-- no pair covers U+0085, U+200E, U+200F, U+2028 or U+2029
unfoldable pub below : (low high : ℕ) → Bool
below low high =
    and (not (meets 0x85 0x85 low high))
    (and (not (meets 0x200E 0x200F low high))
    (not (meets 0x2028 0x2029 low high)))

-- no pair covers a surrogate, U+0085, U+200E, U+200F, U+2028 or U+2029
unfoldable pub clear : (low high : ℕ) → Bool
clear low high =
    and (not (meets 0xD800 0xDFFF low high))
    (and (not (meets 0x85 0x85 low high))
    (and (not (meets 0x200E 0x200F low high))
    (not (meets 0x2028 0x2029 low high))))

-- low ≤ high ≤ 0x10FFFF; low ≥ 0x80; low above the previous high (0 before the first pair); no forbidden point covered
unfoldable pub good_pair : (previous low high : ℕ) → Bool
good_pair previous low high =
    and (leb low high) (and (leb high 0x10FFFF) (and (leb 0x80 low) (and (ltb previous low) (clear low high))))

-- pairs from the left, then a half pair; the first pair here has this index, and the pair before it ends at `previous`
unfoldable pub flaw_from : (index previous : ℕ) → List ℕ → Option ℕ
flaw_from index previous [] = None
flaw_from index previous (low ∷ []) = Some index
flaw_from index previous (low ∷ high ∷ l) = pick (good_pair previous low high) (flaw_from (suc index) high l) (Some index)

-- the count first: a list of more whole pairs than the limit is named by the limit
unfoldable pub flaw : (limit : ℕ) → List ℕ → Option ℕ
flaw limit l = pick (ltb limit (length l / 2)) (Some limit) (flaw_from 0 0 l)

-- refusal 3, of list number `which`
unfoldable pub list_verdict : (limit which : ℕ) → List ℕ → Verdict
list_verdict limit which l = elim (flaw limit l) [ None ↦ fine | Some k ↦ Err (bad.List which k) ]

-- a list whose pairs obey the rules: what a search may lean on
pub record Good (l : List ℕ) : Type 0 where
  pub pairs : flaw_from 0 0 l ≡ None
