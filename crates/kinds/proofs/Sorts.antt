-- Trivia and broken tokens among the kinds, in the facts of the code.
use Prim.Native.Nat.{ℕ}
use mathlib.Core.Path.{◌≡◌, refl, sym, ap, ◌∙◌}
use mathlib.Core.Bool.{Bool, false}
use Rattle.std.specs.Prelude.{Option}
use Rattle.token.specs.declared.DocStyle.{DocStyle}
use Rattle.token.specs.declared.LiteralKind.{LiteralKind}
use Rattle.token.specs.declared.TokenKind.{TokenKind}
use Rattle.token.specs.declared.TokenKind.TheVariants.{LineComment, BlockComment, Whitespace, Literal}
use Rattle.token.specs.Trivia.{is_trivia}
use Rattle.token.specs.Broken.{broken_literal, is_broken}

-- a kind that is neither whitespace nor a comment
pub trivia_other : (k : TokenKind) → ((a : Option DocStyle) → k ≡ LineComment a → ⊥) → ((a : Option DocStyle) (b : Bool) → k ≡ BlockComment a b → ⊥) → (k ≡ Whitespace → ⊥) → false ≡ is_trivia k
trivia_other (LineComment a) l b w = absurd (l a refl)
trivia_other (BlockComment a e) l b w = absurd (b a e refl)
trivia_other Whitespace l b w = absurd (w refl)
trivia_other k l b w = refl

-- a kind that is neither a block comment nor a literal
pub broken_other : (k : TokenKind) → ((a : Option DocStyle) (b : Bool) → k ≡ BlockComment a b → ⊥) → ((l : LiteralKind) (n : ℕ) → k ≡ Literal l n → ⊥) → false ≡ is_broken k
broken_other (BlockComment a e) b l = absurd (b a e refl)
broken_other (Literal x n) b l = absurd (l x n refl)
broken_other k b l = refl

pub broken_literal_lem : (k : TokenKind) {l : LiteralKind} {n : ℕ} {r : Bool} → k ≡ Literal l n → r ≡ broken_literal l → r ≡ is_broken k
broken_literal_lem k e q = q ∙ sym (ap is_broken e)
