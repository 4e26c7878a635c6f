-- How many turns a search takes whose every turn leaves at most half of what it has to look through.
use Prim.Native.Nat.{ℕ, zero, suc, ◌-◌, ◌/◌, ◌^◌, ◌≤◌, ◌<◌}
use native.Mathlib.Nat.{two-pow-succ}
use native.Mathlib.Omega.{arith}

-- how often n can be halved until nothing is left; `most` lets the recursion end, and any number from n on gives the same
halvings : (most n : ℕ) → ℕ
halvings zero n = 0
halvings (suc most) zero = 0
halvings (suc most) (suc n) = suc (halvings most (suc n / 2))

pub turns : ℕ → ℕ
turns n = halvings n n

-- THE MEASURE of the search's loop: the turns that may still come where the pairs from `begin` up to `end` are left
abbrev pub turns_left : (begin end : ℕ) → ℕ
turns_left begin end = turns (end - begin)

-- fewer things are not halved more often
no_more : (f g m n : ℕ) → m ≤ n → n ≤ g → halvings f m ≤ halvings g n
unfolding halvings
no_more zero g m n p q = omega arith
no_more (suc f) g zero n p q = omega arith
no_more (suc f) zero (suc m) n p q = absurd (omega arith)
no_more (suc f) (suc g) (suc m) zero p q = absurd (omega arith)
no_more (suc f) (suc g) (suc m) (suc n) p q = omega (arith, no_more f g (suc m / 2) (suc n / 2) (omega arith) (omega arith))

pub no_more_turns : {m n : ℕ} → m ≤ n → turns m ≤ turns n
unfolding turns
no_more_turns {m} {n} p = no_more m n m n p (omega arith)

-- a turn that leaves at most half takes one off
pub fewer : (m n : ℕ) → 0 < n → m ≤ n / 2 → turns m < turns n
unfolding turns halvings
fewer m zero h p = absurd (omega arith)
fewer m (suc n) h p = omega (arith, no_more m n m (suc n / 2) p (omega arith))

-- THE BOUND: at most k turns for fewer than 2 ^ k things
few : (k most n : ℕ) → n < 2 ^ k → halvings most n ≤ k
unfolding halvings
few k zero n h = omega arith
few k (suc most) zero h = omega arith
few zero (suc most) (suc n) h = absurd (omega arith)
few (suc k) (suc most) (suc n) h = omega (arith, few k most (suc n / 2) (omega (arith, two-pow-succ k)))

pub few_turns : (k : ℕ) {n : ℕ} → n < 2 ^ k → turns n ≤ k
unfolding turns
few_turns k {n} h = few k n n h
