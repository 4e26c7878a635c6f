-- The shape of a kind loses nothing, and its number is the place of the kind among the variants.
use Prim.Native.Nat.{ℕ, ◌≤◌}
use mathlib.Core.Path.{◌≡◌, refl, sym, ap, subst, ◌∙◌}
use mathlib.Core.Bool.{Bool, true, false, not}
use mathlib.Core.List.{List, [], ◌∷◌}
use mathlib.Core.Logic.{⊎_elim}
use lib.Dec.{T, eqb, leb}
use lib.ListN.{get_or}
use mir.Val.{has_key}
use borrow.Author.Tests.{eqb-true, leb-true}
use types.Run.{OneOf, miss}
use denote.Enum.Declared.{tag_of}
use Rattle.basics.specs.Choice.{and}
use Rattle.basics.specs.Tests.{is_in}
use Rattle.basics.proofs.Choices.{and_1, yes_or_no}
use Rattle.token.specs.contracts.TokenKind.{the_type}
use Rattle.token.specs.declared.TokenKind.{TokenKind}
use Rattle.token.specs.declared.TokenKind.TheVariants.{LineComment, BlockComment, Whitespace, Frontmatter, Ident, InvalidIdent, RawIdent, ForcedKeywordIdent, UnknownPrefix, UnknownPrefixLifetime, RawLifetime, GuardedStrPrefix, Literal, Lifetime, Semi, Comma, Dot, OpenParen, CloseParen, OpenBrace, CloseBrace, OpenBracket, CloseBracket, At, Pound, Tilde, Question, Colon, Dollar, Eq, Bang, Lt, Gt, Minus, And, Or, Plus, Star, Slash, Caret, Percent, Unknown, Eof}
use Rattle.token.specs.Shapes.{Shape, line, block, white, front, lit, life, bare, shape_of}
use Rattle.token.specs.Kinds.{shape_number, kind_number}

-- the bare kinds by number; Eof where a number is not a bare kind's
abbrev bares : List TokenKind
bares = Eof ∷ Eof ∷ Eof ∷ Eof ∷ Ident ∷ InvalidIdent ∷ RawIdent ∷ ForcedKeywordIdent ∷ UnknownPrefix ∷ UnknownPrefixLifetime ∷ RawLifetime ∷ GuardedStrPrefix ∷ Eof ∷ Eof ∷ Semi ∷ Comma ∷ Dot ∷ OpenParen ∷ CloseParen ∷ OpenBrace ∷ CloseBrace ∷ OpenBracket ∷ CloseBracket ∷ At ∷ Pound ∷ Tilde ∷ Question ∷ Colon ∷ Dollar ∷ Eq ∷ Bang ∷ Lt ∷ Gt ∷ Minus ∷ And ∷ Or ∷ Plus ∷ Star ∷ Slash ∷ Caret ∷ Percent ∷ Unknown ∷ Eof ∷ []

-- the kind of a shape
abbrev pub kind_of : Shape → TokenKind
kind_of (line d) = LineComment d
kind_of (block d t) = BlockComment d t
kind_of white = Whitespace
kind_of (front a b) = Frontmatter a b
kind_of (lit l n) = Literal l n
kind_of (life b) = Lifetime b
kind_of (bare n) = get_or bares n Eof

-- the number of a bare kind: one of the 43, and of no kind that has a shape of its own
abbrev pub is_bare : ℕ → Bool
is_bare n = and (leb n 42) (not (is_in (0 ∷ 1 ∷ 2 ∷ 3 ∷ 12 ∷ 13 ∷ []) n))

abbrev pub known : Shape → Bool
known (line d) = true
known (block d t) = true
known white = true
known (front a b) = true
known (lit l n) = true
known (life b) = true
known (bare n) = is_bare n

pub record Shaped (k : TokenKind) : Type 0 where
  pub back : kind_of (shape_of k) ≡ k
  pub place : tag_of the_type k ≡ kind_number k
  pub good : known (shape_of k) ≡ true

held : {k : TokenKind} → kind_of (shape_of k) ≡ k → tag_of the_type k ≡ kind_number k → known (shape_of k) ≡ true → Shaped k
held b p g = record { back = b; place = p; good = g }

pub shaped : (k : TokenKind) → Shaped k
shaped (LineComment d) = held refl refl refl
shaped (BlockComment d t) = held refl refl refl
shaped Whitespace = held refl refl refl
shaped (Frontmatter a b) = held refl refl refl
shaped Ident = held refl refl refl
shaped InvalidIdent = held refl refl refl
shaped RawIdent = held refl refl refl
shaped ForcedKeywordIdent = held refl refl refl
shaped UnknownPrefix = held refl refl refl
shaped UnknownPrefixLifetime = held refl refl refl
shaped RawLifetime = held refl refl refl
shaped GuardedStrPrefix = held refl refl refl
shaped (Literal l n) = held refl refl refl
shaped (Lifetime b) = held refl refl refl
shaped Semi = held refl refl refl
shaped Comma = held refl refl refl
shaped Dot = held refl refl refl
shaped OpenParen = held refl refl refl
shaped CloseParen = held refl refl refl
shaped OpenBrace = held refl refl refl
shaped CloseBrace = held refl refl refl
shaped OpenBracket = held refl refl refl
shaped CloseBracket = held refl refl refl
shaped At = held refl refl refl
shaped Pound = held refl refl refl
shaped Tilde = held refl refl refl
shaped Question = held refl refl refl
shaped Colon = held refl refl refl
shaped Dollar = held refl refl refl
shaped Eq = held refl refl refl
shaped Bang = held refl refl refl
shaped Lt = held refl refl refl
shaped Gt = held refl refl refl
shaped Minus = held refl refl refl
shaped And = held refl refl refl
shaped Or = held refl refl refl
shaped Plus = held refl refl refl
shaped Star = held refl refl refl
shaped Slash = held refl refl refl
shaped Caret = held refl refl refl
shaped Percent = held refl refl refl
shaped Unknown = held refl refl refl
shaped Eof = held refl refl refl

-- a kind's number is at most 42
small : (s : Shape) → known s ≡ true → leb (shape_number s) 42 ≡ true
small (line d) g = refl
small (block d t) g = refl
small white g = refl
small (front a b) g = refl
small (lit l n) g = refl
small (life b) g = refl
small (bare n) g = and_1 _ _ g

pub small_number : (k : TokenKind) → kind_number k ≤ 42
small_number k = leb-true (kind_number k) 42 (small (shape_of k) (shaped k).good)

-- NOTHING IS LOST: kinds of one shape are one kind
pub one_shape : (j k : TokenKind) → shape_of j ≡ shape_of k → j ≡ k
one_shape j k e = sym (shaped j).back ∙ ap kind_of e ∙ (shaped k).back

-- IN THE FACTS OF THE CODE: a kind that is one of the listed variants, by its number
pub listed : (ns : List ℕ) (k : TokenKind) → OneOf ns (tag_of the_type k) → OneOf ns (kind_number k)
listed ns k h = subst (OneOf ns) (shaped k).place h

-- a variant that is not listed is another one
pub not_listed : (ns : List ℕ) (m : ℕ) → T (not (has_key ns m)) → (k : TokenKind) → OneOf ns (tag_of the_type k) → false ≡ eqb (kind_number k) m
not_listed ns m t k h =
    ⊎_elim (λ e. absurd (miss ns m t (subst (OneOf ns) (eqb-true (kind_number k) m e) (listed ns k h)))) (λ e. sym e) (yes_or_no (eqb (kind_number k) m))
