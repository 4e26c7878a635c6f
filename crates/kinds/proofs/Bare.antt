-- Kinds that hold nothing, in the facts of the code.
use Prim.Native.Nat.{ℕ}
use mathlib.Core.Path.{◌≡◌, refl}
use mathlib.Core.Bool.{Bool}
use native.Mathlib.Omega.{arith}
use Rattle.std.specs.Prelude.{Option}
use Rattle.token.specs.declared.DocStyle.{DocStyle}
use Rattle.token.specs.declared.LiteralKind.{LiteralKind}
use Rattle.token.specs.declared.TokenKind.{TokenKind}
use Rattle.token.specs.declared.TokenKind.TheVariants.{LineComment, BlockComment, Frontmatter, Literal, Lifetime}
use Rattle.kinds.specs.Codes.{detail, suffix_of}
use Rattle.kinds.specs.Coded.{Coded}

pub no_detail : (k : TokenKind) → ((a : Option DocStyle) → k ≡ LineComment a → ⊥) → ((a : Option DocStyle) (b : Bool) → k ≡ BlockComment a b → ⊥) → ((a b : Bool) → k ≡ Frontmatter a b → ⊥)
    → ((l : LiteralKind) (n : ℕ) → k ≡ Literal l n → ⊥) → ((b : Bool) → k ≡ Lifetime b → ⊥) → 0 ≡ detail k
no_detail (LineComment a) f g h i j = absurd (f a refl)
no_detail (BlockComment a b) f g h i j = absurd (g a b refl)
no_detail (Frontmatter a b) f g h i j = absurd (h a b refl)
no_detail (Literal l n) f g h i j = absurd (i l n refl)
no_detail (Lifetime b) f g h i j = absurd (j b refl)
no_detail k f g h i j = refl

pub bare_detail : (k : TokenKind) → ((a : Option DocStyle) → k ≡ LineComment a → ⊥) → ((a : Option DocStyle) (b : Bool) → k ≡ BlockComment a b → ⊥) → ((a b : Bool) → k ≡ Frontmatter a b → ⊥)
    → ((l : LiteralKind) (n : ℕ) → k ≡ Literal l n → ⊥) → ((b : Bool) → k ≡ Lifetime b → ⊥) → Coded 4105 (detail k) 0
bare_detail k f g h i j = record { same = no_detail k f g h i j; small = omega arith }

-- a kind that is no literal
pub no_suffix : (k : TokenKind) → ((l : LiteralKind) (n : ℕ) → k ≡ Literal l n → ⊥) → 0 ≡ suffix_of k
no_suffix (Literal l n) h = absurd (h l n refl)
no_suffix k h = refl
