-- The numbers of a slot put one after the other.
use Prim.Native.Nat.{ℕ, ◌+◌, ◌≤◌}
use mathlib.Core.Path.{◌≡◌, refl}
use mathlib.Core.List.{List, [], ◌∷◌}
use lib.ListN.{length, set, length-set}
use native.Mathlib.Omega.{arith}
use Rattle.token.specs.declared.Token.{Token}
use Rattle.kinds.specs.Codes.{kind_code, suffix_of}
use Rattle.puts.specs.Put.{Put}
use Rattle.puts.proofs.Puts.{one_put, put_then}
use Rattle.slots.specs.Numbers.{width, slot_of}

-- one number at a place that is given by an equation
one_at : {out : List ℕ} {m b : ℕ} (n : ℕ) (k : ℕ) → n ≡ m → m + 1 ≡ k → m + 1 ≤ length out → Put (b ∷ []) out n (set out m b) k
one_at {out} {m} {b} n k e f h = rw (e, ← f) (one_put h)

pub slot_put : {out : List ℕ} {n a b c d e : ℕ} → n + width ≤ length out
    → Put (a ∷ b ∷ c ∷ d ∷ e ∷ []) out n (set (set (set (set (set out n a) (n + 1) b) (n + 2) c) (n + 3) d) (n + 4) e) (n + width)
slot_put {out} {n} {a} {b} {c} {d} {e} h =
    let p : Put (a ∷ []) out n (set out n a) (n + 1) = one_put (omega (arith, h)) in
    let q : Put (b ∷ []) (set out n a) (n + 1) (set (set out n a) (n + 1) b) (n + 2) = one_at (n + 1) (n + 2) refl (omega arith) (simp length-set (omega (arith, h))) in
    let r : Put (c ∷ []) (set (set out n a) (n + 1) b) (n + 2) (set (set (set out n a) (n + 1) b) (n + 2) c) (n + 3) = one_at (n + 2) (n + 3) refl (omega arith) (simp length-set (omega (arith, h))) in
    let t : Put (d ∷ []) (set (set (set out n a) (n + 1) b) (n + 2) c) (n + 3) (set (set (set (set out n a) (n + 1) b) (n + 2) c) (n + 3) d) (n + 4) = one_at (n + 3) (n + 4) refl (omega arith) (simp length-set (omega (arith, h))) in
    let u : Put (e ∷ []) (set (set (set (set out n a) (n + 1) b) (n + 2) c) (n + 3) d) (n + 4) (set (set (set (set (set out n a) (n + 1) b) (n + 2) c) (n + 3) d) (n + 4) e) (n + width) = one_at (n + 4) (n + width) refl (omega arith) (simp length-set (omega (arith, h))) in
    put_then p (put_then q (put_then r (put_then t u)))

-- those of a token
pub token_put : {out after : List ℕ} {n r code suffix : ℕ} (t : Token) → code ≡ kind_code t.kind → suffix ≡ suffix_of t.kind
    → Put (code ∷ suffix ∷ t.len ∷ t.start ∷ t.line ∷ []) out n after r → Put (slot_of t) out n after r
token_put t e f u = rw (← e, ← f) u
