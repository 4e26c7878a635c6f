-- Laws of bytes put into a buffer, in the facts of the code.
use Prim.Native.Nat.{ℕ, ◌+◌, ◌-◌, ◌≤◌, ◌<◌}
use mathlib.Core.Path.{◌≡◌, refl, sym, ap, ◌∙◌}
use mathlib.Core.List.{List, [], ◌∷◌, ◌++◌, append_assoc}
use lib.ListN.{length, take, drop, get_or, set, length-append, length-take, length-drop, length-set}
use lib.Seq.{paste, paste-zero, paste-suc, take-length, set_split, take_at, drop_at, drop-drop, length-take-le}
use native.Mathlib.Numerals.{add-one}
use native.Mathlib.Omega.{arith}
use Rattle.puts.specs.Put.{laid, Put}

-- the first i bytes of s are copied into out₀
pub record Copying (s out₀ : List ℕ) (at : ℕ) (out : List ℕ) (i : ℕ) : Type 0 where
  pub within : i ≤ length s
  pub kept : length out ≡ length out₀
  pub same : out ≡ paste out₀ at s i

pub copy_starts : {s out : List ℕ} {at : ℕ} → Copying s out at out 0
copy_starts {s} {out} {at} = record { within = omega arith; kept = refl; same = paste-zero out at s }

pub copied : {s out₀ out : List ℕ} {at i : ℕ} → at + length s ≤ length out₀ → Copying s out₀ at out i → i < length s → Copying s out₀ at (set out (at + i) (get_or s i 0)) (i + 1)
copied {s} {out₀} {out} {at} {i} room c h =
    record { within = omega arith; kept = simp length-set c.kept; same = ap (λ (l : List ℕ). set l (at + i) (get_or s i 0)) c.same ∙ paste-suc out₀ at s i 0 (omega arith) h ∙ ap (paste out₀ at s) (sym (add-one i)) }

pub pasted : {s out₀ out : List ℕ} {at i : ℕ} → at + length s ≤ length out₀ → Copying s out₀ at out i → length s ≤ i → Put s out₀ at out (at + i)
unfolding laid
pasted {s} {out₀} {out} {at} {i} room c l =
    let n : i ≡ length s = omega arith in
    record { holds = c.same ∙ ap (paste out₀ at s) n ∙ rw take-length (append_assoc (take at out₀) s (drop (at + length s) out₀)); next = omega arith; room = omega arith }

-- one byte
pub one_put : {out : List ℕ} {at b : ℕ} → at + 1 ≤ length out → Put (b ∷ []) out at (set out at b) (at + 1)
unfolding laid
one_put {out} {at} {b} h = record { holds = set_split out at b (omega arith) ∙ sym (ap (λ (k : ℕ). take at out ++ b ∷ drop k out) (add-one at)); next = refl; room = h }

-- bytes leave the length
pub length_laid : (out : List ℕ) (at : ℕ) (xs : List ℕ) → at + length xs ≤ length out → length (laid out at xs) ≡ length out
unfolding laid
length_laid out at xs h = simp (length-append, length-take, length-drop) (omega arith)

-- bytes, and then bytes right past them
pub laid_then : (out : List ℕ) (at : ℕ) (xs ys : List ℕ) → at + length xs ≤ length out → laid (laid out at xs) (at + length xs) ys ≡ laid out at (xs ++ ys)
unfolding laid
laid_then out at xs ys h =
    let m : ℕ = at + length xs + length ys in
    let P : List ℕ = take at out ++ xs in
    let D : List ℕ = drop (at + length xs) out in
    let lp : length P ≡ at + length xs = length-append (take at out) xs ∙ ap (λ (k : ℕ). k + length xs) (length-take-le at out (omega arith)) in
    let d : drop m (P ++ D) ≡ drop m out = sym (drop-drop (length ys) (at + length xs) (P ++ D)) ∙ ap (drop (length ys)) (drop_at P D (at + length xs) lp) ∙ drop-drop (length ys) (at + length xs) out in
    let n : at + length (xs ++ ys) ≡ m = omega (arith, length-append xs ys) in
    ap (λ (l : List ℕ). take (at + length xs) l ++ (ys ++ drop m l)) (sym (append_assoc (take at out) xs D))
    ∙ ap (λ (l : List ℕ). l ++ (ys ++ drop m (P ++ D))) (take_at P D (at + length xs) lp)
    ∙ ap (λ (l : List ℕ). P ++ (ys ++ l)) d
    ∙ append_assoc (take at out) xs (ys ++ drop m out)
    ∙ ap (λ (l : List ℕ). take at out ++ l) (sym (append_assoc xs ys (drop m out)))
    ∙ ap (λ (k : ℕ). take at out ++ ((xs ++ ys) ++ drop k out)) (sym n)

pub put_then : {o p q xs ys : List ℕ} {at b c : ℕ} → Put xs o at p b → Put ys p b q c → Put (xs ++ ys) o at q c
put_then {o} {p} {q} {xs} {ys} {at} {b} x y =
    let l : at + length xs ≤ length o = omega arith in
    let m : length p ≡ length o = ap length x.holds ∙ length_laid o at xs l in
    record { holds = y.holds ∙ ap (λ (s : List ℕ). laid s b ys) x.holds ∙ ap (λ (k : ℕ). laid (laid o at xs) k ys) x.next ∙ laid_then o at xs ys l; next = omega (arith, length-append xs ys); room = omega arith }

-- what bytes put past others are
module _ {xs o p : List ℕ} {at r : ℕ} (u : Put xs o at p r) where
  front : p ≡ (take at o ++ xs) ++ drop r o
  unfolding laid
  front = u.holds ∙ sym (append_assoc (take at o) xs (drop (at + length xs) o)) ∙ ap (λ (k : ℕ). (take at o ++ xs) ++ drop k o) (sym u.next)

  front_long : length (take at o ++ xs) ≡ r
  front_long = length-append (take at o) xs ∙ ap (λ (k : ℕ). k + length xs) (length-take-le at o (omega (arith, u.next, u.room))) ∙ sym u.next

  pub put_take : take r p ≡ take at o ++ xs
  put_take = ap (take r) front ∙ take_at (take at o ++ xs) (drop r o) r front_long

  pub put_drop : drop r p ≡ drop r o
  put_drop = ap (drop r) front ∙ drop_at (take at o ++ xs) (drop r o) r front_long

  pub put_length : length p ≡ length o
  put_length = omega (arith, ap length front, length-append (take at o ++ xs) (drop r o), front_long, length-drop r o, u.room)

-- past a later place, what was kept is kept
pub kept_on : (o p : List ℕ) (a b : ℕ) → drop a o ≡ drop a p → a ≤ b → drop b o ≡ drop b p
kept_on o p a b e h =
    let k : a + (b - a) ≡ b = omega arith in
    ap (λ (n : ℕ). drop n o) (sym k) ∙ sym (drop-drop (b - a) a o) ∙ ap (drop (b - a)) e ∙ drop-drop (b - a) a p ∙ ap (λ (n : ℕ). drop n p) k
