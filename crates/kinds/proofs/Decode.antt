-- The codes lose nothing: from the code of a kind and the start of its suffix the kind is read back.
use Rattle.std.specs.Prelude.{Option, None, Some}
use Prim.Native.Nat.{ℕ, zero, suc, ◌+◌, ◌*◌, ◌/◌, ◌%◌, ◌≤◌}
use mathlib.Core.Path.{◌≡◌, refl, sym, ap, ◌∙◌}
use mathlib.Core.Bool.{Bool, true, false, true≢false}
use mathlib.Core.List.{[], ◌∷◌}
use mathlib.Core.Logic.{⊎_elim}
use lib.ListN.{get_or}
use lib.Dec.{eqb, leb}
use borrow.Author.Tests.{eqb-true, leb-true}
use native.Mathlib.Numerals.{add-one}
use native.Mathlib.Omega.{arith}
use Rattle.basics.specs.Choice.{pick}
use Rattle.basics.proofs.Choices.{yes_or_no}
use Rattle.token.specs.declared.DocStyle.{DocStyle}
use Rattle.token.specs.declared.DocStyle.TheVariants.{Outer, Inner}
use Rattle.token.specs.declared.Base.{Base}
use Rattle.token.specs.declared.Base.TheVariants.{Binary, Octal, Decimal, Hexadecimal}
use Rattle.token.specs.declared.LiteralKind.{LiteralKind}
use Rattle.token.specs.declared.LiteralKind.TheVariants.{Int, Float, Char, Byte, Str, ByteStr, CStr, RawStr, RawByteStr, RawCStr}
use Rattle.token.specs.declared.TokenKind.{TokenKind}
use Rattle.token.specs.Shapes.{Shape, line, block, white, front, lit, life, bare, shape_of}
use Rattle.token.specs.Kinds.{shape_number, kind_number}
use Rattle.token.proofs.Shapes.{kind_of, is_bare, known, shaped, small_number}
use Rattle.kinds.specs.Codes.{bit, doc_code, base_code, hash_code, literal_number, literal_detail, literal_code, shape_detail, detail, kind_code, shape_suffix, suffix_of}

-- each part read back

abbrev doc_at : ℕ → Option DocStyle
doc_at n = get_or (None ∷ (Some Outer) ∷ (Some Inner) ∷ []) n None

abbrev base_at : ℕ → Base
base_at n = get_or (Binary ∷ Octal ∷ Decimal ∷ Hexadecimal ∷ []) n Binary

abbrev bit_at : ℕ → Bool
bit_at n = eqb n 1

abbrev hash_at : ℕ → Option ℕ
hash_at zero = None
hash_at (suc n) = Some n

-- a literal by its number and what it holds
abbrev literal_at : ℕ → ℕ → LiteralKind
literal_at n d =
    get_or
    (Int (base_at (d % 4)) (bit_at (d / 4))
    ∷ Float (base_at (d % 4)) (bit_at (d / 4))
    ∷ Char (bit_at d)
    ∷ Byte (bit_at d)
    ∷ Str (bit_at d)
    ∷ ByteStr (bit_at d)
    ∷ CStr (bit_at d)
    ∷ RawStr (hash_at d)
    ∷ RawByteStr (hash_at d)
    ∷ RawCStr (hash_at d)
    ∷ [])
    n
    (Char true)

-- a shape by its number, what it holds, and the start of its suffix
abbrev shape_at : ℕ → ℕ → ℕ → Shape
shape_at n d s =
    pick (eqb n 0) (line (doc_at d))
    (pick (eqb n 1) (block (doc_at (d % 4)) (bit_at (d / 4)))
    (pick (eqb n 2) white
    (pick (eqb n 3) (front (bit_at (d % 2)) (bit_at (d / 2)))
    (pick (eqb n 12) (lit (literal_at (d % 16) (d / 16)) s)
    (pick (eqb n 13) (life (bit_at d))
    (bare n))))))

bit_back : (b : Bool) → bit_at (bit b) ≡ b
bit_back true = refl
bit_back false = refl

doc_back : (d : Option DocStyle) → doc_at (doc_code d) ≡ d
doc_back None = refl
doc_back (Some Outer) = refl
doc_back (Some Inner) = refl

hash_back : (h : Option ℕ) → hash_at (hash_code h) ≡ h
hash_back None = refl
hash_back (Some n) = rw add-one

base_bit_back : (b : Base) (e : Bool) → (base_at ((base_code b + 4 * bit e) % 4) ≡ b) × (bit_at ((base_code b + 4 * bit e) / 4) ≡ e)
base_bit_back Binary false = (refl, refl)
base_bit_back Binary true = (refl, refl)
base_bit_back Octal false = (refl, refl)
base_bit_back Octal true = (refl, refl)
base_bit_back Decimal false = (refl, refl)
base_bit_back Decimal true = (refl, refl)
base_bit_back Hexadecimal false = (refl, refl)
base_bit_back Hexadecimal true = (refl, refl)

literal_back : (k : LiteralKind) → literal_at (literal_number k) (literal_detail k) ≡ k
literal_back (Int b e) = rw ((base_bit_back b e).0, (base_bit_back b e).1)
literal_back (Float b e) = rw ((base_bit_back b e).0, (base_bit_back b e).1)
literal_back (Char t) = ap Char (bit_back t)
literal_back (Byte t) = ap Byte (bit_back t)
literal_back (Str t) = ap Str (bit_back t)
literal_back (ByteStr t) = ap ByteStr (bit_back t)
literal_back (CStr t) = ap CStr (bit_back t)
literal_back (RawStr h) = ap RawStr (hash_back h)
literal_back (RawByteStr h) = ap RawByteStr (hash_back h)
literal_back (RawCStr h) = ap RawCStr (hash_back h)

literal_at_most : (k : LiteralKind) → leb (literal_number k) 9 ≡ true
literal_at_most (Int b e) = refl
literal_at_most (Float b e) = refl
literal_at_most (Char t) = refl
literal_at_most (Byte t) = refl
literal_at_most (Str t) = refl
literal_at_most (ByteStr t) = refl
literal_at_most (CStr t) = refl
literal_at_most (RawStr h) = refl
literal_at_most (RawByteStr h) = refl
literal_at_most (RawCStr h) = refl

code_literal : (k : LiteralKind) → literal_at (literal_code k % 16) (literal_code k / 16) ≡ k
code_literal k =
    let l : literal_number k ≤ 9 = leb-true (literal_number k) 9 (literal_at_most k) in
    let m : (literal_number k + 16 * literal_detail k) % 16 ≡ literal_number k = omega arith in
    let q : (literal_number k + 16 * literal_detail k) / 16 ≡ literal_detail k = omega arith in
    rw (m, q) (literal_back k)

-- the number of a bare kind is not that of another
apart : (n m : ℕ) → is_bare n ≡ true → is_bare m ≡ false → eqb n m ≡ false
apart n m g f = ⊎_elim (λ e. absurd (true≢false (sym g ∙ ap is_bare (eqb-true n m e) ∙ f))) (λ e. e) (yes_or_no (eqb n m))

shape_back : (s : Shape) → known s ≡ true → shape_at (shape_number s) (shape_detail s) (shape_suffix s) ≡ s
shape_back (line d) g = ap line (doc_back d)
shape_back (block None false) g = refl
shape_back (block None true) g = refl
shape_back (block (Some Outer) false) g = refl
shape_back (block (Some Outer) true) g = refl
shape_back (block (Some Inner) false) g = refl
shape_back (block (Some Inner) true) g = refl
shape_back white g = refl
shape_back (front false false) g = refl
shape_back (front false true) g = refl
shape_back (front true false) g = refl
shape_back (front true true) g = refl
shape_back (lit l n) g = ap (λ (x : LiteralKind). lit x n) (code_literal l)
shape_back (life b) g = ap life (bit_back b)
shape_back (bare n) g = rw (apart n 0 g refl, apart n 1 g refl, apart n 2 g refl, apart n 3 g refl, apart n 12 g refl, apart n 13 g refl)

-- THE KIND READ BACK from its code and the start of its suffix
abbrev pub decode : ℕ → ℕ → TokenKind
decode code suffix = kind_of (shape_at (code % 64) (code / 64) suffix)

pub decode_code : (k : TokenKind) → decode (kind_code k) (suffix_of k) ≡ k
decode_code k =
    let l : kind_number k ≤ 42 = small_number k in
    let m : (kind_number k + 64 * detail k) % 64 ≡ kind_number k = omega arith in
    let q : (kind_number k + 64 * detail k) / 64 ≡ detail k = omega arith in
    rw (m, q) (ap kind_of (shape_back (shape_of k) (shaped k).good) ∙ (shaped k).back)

-- NOTHING IS LOST: kinds of one code and one suffix start are one kind
pub loses_nothing : (j k : TokenKind) → kind_code j ≡ kind_code k → suffix_of j ≡ suffix_of k → j ≡ k
loses_nothing j k c s = sym (decode_code j) ∙ ap (λ (n : ℕ). decode n (suffix_of j)) c ∙ ap (decode (kind_code k)) s ∙ decode_code k
