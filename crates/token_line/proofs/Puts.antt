-- The parts of a line, put one after the other.
use Prim.Native.Nat.{ℕ, ◌≤◌, ◌<◌}
use mathlib.Core.Path.{◌≡◌, subst}
use mathlib.Core.List.{List, [], ◌∷◌, ◌++◌, append_assoc}
use lib.ListN.{length, length-append}
use native.Mathlib.Omega.{arith}
use Rattle.token.specs.declared.TokenKind.{TokenKind}
use Rattle.token.specs.Kinds.{kind_name}
use Rattle.puts.specs.Put.{Put, PutFew}
use Rattle.puts.proofs.Puts.{put_then}
use Rattle.fields.specs.Numerals.{numeral}
use Rattle.fields.proofs.Puts.{ten, few_digits}
use Rattle.token_line.specs.Line.{front, line, lined_line}

-- a number of 32 bits has at most ten digits
pub ten_digits : (n : ℕ) → n < 4294967296 → length (numeral 10 n) ≤ 10
ten_digits n h = few_digits ten 9 n (omega arith)

-- the parts of a line, one after the other
pub front_put : (k : TokenKind) (n : ℕ) → n < 4294967296 → {o p q s : List ℕ} {at a b r : ℕ}
    → PutFew 21 (kind_name k) o at p a → Put (9 ∷ []) p a q b → Put (numeral 10 n) q b s r → PutFew 32 (front k n) o at s r
unfolding front
front_put k n small {o} {p} {q} {s} {at} {a} {b} {r} name tab number =
    let e : (kind_name k ++ (9 ∷ [])) ++ numeral 10 n ≡ kind_name k ++ (9 ∷ numeral 10 n) = simp append_assoc in
    let w : Put ((kind_name k ++ (9 ∷ [])) ++ numeral 10 n) o at s r = put_then (put_then name.put tab) number in
    let l : length (kind_name k ++ (9 ∷ numeral 10 n)) ≤ 32 = simp length-append (omega (arith, name.few, ten_digits n small)) in
    record { put = subst (λ (xs : List ℕ). Put xs o at s r) e w; few = l }

pub line_put : (k : TokenKind) (n : ℕ) {o p q : List ℕ} {at a r : ℕ} → PutFew 32 (front k n) o at p a → Put (10 ∷ []) p a q r → PutFew 33 (line k n) o at q r
unfolding line
line_put k n begun end = record { put = put_then begun.put end; few = simp length-append (omega (arith, begun.few)) }

pub lined_put : (k : TokenKind) (n f : ℕ) → f < 4294967296 → {o p q s t : List ℕ} {at a b c r : ℕ}
    → PutFew 32 (front k n) o at p a → Put (9 ∷ []) p a q b → Put (numeral 10 f) q b s c → Put (10 ∷ []) s c t r → PutFew 44 (lined_line k n f) o at t r
unfolding lined_line
lined_put k n f small {o} {p} {q} {s} {t} {at} {a} {b} {c} {r} begun tab number end =
    let e : ((front k n ++ (9 ∷ [])) ++ numeral 10 f) ++ (10 ∷ []) ≡ front k n ++ (9 ∷ (numeral 10 f ++ (10 ∷ []))) = simp append_assoc in
    let w : Put (((front k n ++ (9 ∷ [])) ++ numeral 10 f) ++ (10 ∷ [])) o at t r = put_then (put_then (put_then begun.put tab) number) end in
    let l : length (front k n ++ (9 ∷ (numeral 10 f ++ (10 ∷ [])))) ≤ 44 = simp length-append (omega (arith, begun.few, ten_digits f small)) in
    record { put = subst (λ (xs : List ℕ). Put xs o at t r) e w; few = l }
