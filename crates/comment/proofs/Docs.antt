-- Doc styles: the book reads them off the text taken, the code off the next two characters; and the ends of lines.
use Prim.Native.Nat.{ℕ, zero, suc, ◌≤◌}
use mathlib.Core.Path.{◌≡◌, refl, ap}
use mathlib.Core.Bool.{Bool, true, false, not}
use mathlib.Core.List.{List, [], ◌∷◌}
use mathlib.Core.Logic.{◌⊎◌, inl, inr}
use lib.Dec.{eqb}
use lib.ListN.{length, get_or, take}
use native.Mathlib.Omega.{arith}
use borrow.Author.Tests.{eqb-true}
use Rattle.basics.specs.Choice.{pick, and}
use Rattle.eaters.specs.Eat.{take_while}
use Rattle.std.specs.Prelude.{Some, None}
use Rattle.token.specs.declared.DocStyle.TheVariants.{Outer, Inner}
use Rattle.token.specs.Names.{is, '!', '/'}
use Rattle.token.specs.Comments.{in_line, line_doc, block_doc}

-- the line's text has the same style
abbrev line : List ℕ → List ℕ
line cs = take_while in_line cs

second_slash : (cs : List ℕ) → is '/' (get_or (line cs) 0 0) ≡ is '/' (get_or cs 0 0)
second_slash [] = refl
second_slash (d ∷ ds) = go (eqb d 10) refl
  where
    go : (t : Bool) → eqb d 10 ≡ t → is '/' (get_or (pick (not t) (d ∷ line ds) []) 0 0) ≡ is '/' d
    go true e = let q : d ≡ 10 = eqb-true d 10 e in rw q
    go false e = refl

pub line_style : (cs : List ℕ) → line_doc (line cs) ≡ line_doc cs
line_style [] = refl
line_style (c ∷ cs) = go (eqb c 10) refl
  where
    go : (t : Bool) → eqb c 10 ≡ t → line_doc (pick (not t) (c ∷ line cs) []) ≡ line_doc (c ∷ cs)
    go true e = let q : c ≡ 10 = eqb-true c 10 e in rw q
    go false e = ap (λ (b : Bool). pick (is '!' c) (Some Inner) (pick (and (is '/' c) (not b)) (Some Outer) None)) (second_slash cs)

-- the comment's text has the same style, if it has two characters, or all that are there
pub block_style : (cs : List ℕ) (n : ℕ) → (2 ≤ n) ⊎ (n ≡ length cs) → block_doc (take n cs) ≡ block_doc cs
block_style [] zero h = refl
block_style [] (suc n) h = refl
block_style (c ∷ cs) zero (inl h) = absurd (omega arith)
block_style (c ∷ cs) zero (inr h) = absurd (omega arith)
block_style (c ∷ []) (suc zero) h = refl
block_style (c ∷ []) (suc (suc n)) h = refl
block_style (c ∷ d ∷ cs) (suc zero) (inl h) = absurd (omega arith)
block_style (c ∷ d ∷ cs) (suc zero) (inr h) = absurd (omega arith)
block_style (c ∷ d ∷ cs) (suc (suc n)) h = refl
