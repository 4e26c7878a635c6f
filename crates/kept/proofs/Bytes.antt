-- The bytes that wait, in a run and as a value.
use Prim.Native.Nat.{ℕ, ◌+◌, ◌-◌, ◌≤◌, ◌<◌}
use mathlib.Core.Path.{◌≡◌, refl, sym, ap, ◌∙◌}
use mathlib.Core.List.{List, [], ◌∷◌, ◌++◌}
use lib.ListN.{length, drop, set, length-set}
use native.Mathlib.Omega.{arith}
use Rattle.key_state.specs.declared.Kept.{Kept}
use Rattle.key_state.specs.declared.Kept.TheVariants.{Nothing, One, Two, Three}
use Rattle.key_state.specs.Kept.{kept_bytes}
use Rattle.kept.specs.Puts.{PutKept}

-- INTO A RUN of three bytes or more
put_as : {k d : Kept} {before after : List ℕ} {r : ℕ} → k ≡ d → PutKept d before after r → PutKept k before after r
put_as {k} {d} {before} {after} {r} e p = record { holds = p.holds ∙ ap (λ (x : Kept). kept_bytes x ++ drop (length (kept_bytes x)) before) (sym e); bytes = p.bytes ∙ ap (λ (x : Kept). length (kept_bytes x)) (sym e) }

pub put_none : {k : Kept} (before : List ℕ) → k ≡ Nothing → PutKept k before before 0
put_none before e = put_as e (record { holds = refl; bytes = refl })

set_one : (o : List ℕ) (a : ℕ) → 3 ≤ length o → set o 0 a ≡ a ∷ drop 1 o
set_one [] a h = absurd (omega (arith, h))
set_one (x ∷ o) a h = refl

set_two : (o : List ℕ) (a b : ℕ) → 3 ≤ length o → set (set o 0 a) 1 b ≡ a ∷ b ∷ drop 2 o
set_two [] a b h = absurd (omega (arith, h))
set_two (x ∷ []) a b h = absurd (omega (arith, h))
set_two (x ∷ y ∷ o) a b h = refl

set_three : (o : List ℕ) (a b c : ℕ) → 3 ≤ length o → set (set (set o 0 a) 1 b) 2 c ≡ a ∷ b ∷ c ∷ drop 3 o
set_three [] a b c h = absurd (omega (arith, h))
set_three (x ∷ []) a b c h = absurd (omega (arith, h))
set_three (x ∷ y ∷ []) a b c h = absurd (omega (arith, h))
set_three (x ∷ y ∷ z ∷ o) a b c h = refl

-- the run stays as long as it is
pub still_room : (o : List ℕ) (a : ℕ) → 3 ≤ length o → 1 < length (set o 0 a)
still_room o a h = omega (arith, h, length-set o 0 a)

pub put_one : {k : Kept} (o : List ℕ) (a : ℕ) → k ≡ One a → 3 ≤ length o → PutKept k o (set o 0 a) 1
put_one o a e h = put_as e (record { holds = set_one o a h; bytes = refl })

pub put_two : {k : Kept} (o : List ℕ) (a b : ℕ) → k ≡ Two a b → 3 ≤ length o → PutKept k o (set (set o 0 a) 1 b) 2
put_two o a b e h = put_as e (record { holds = set_two o a b h; bytes = refl })

pub put_three : {k : Kept} (o : List ℕ) (a b c : ℕ) → k ≡ Three a b c → 3 ≤ length o → PutKept k o (set (set (set o 0 a) 1 b) 2 c) 3
put_three o a b c e h = put_as e (record { holds = set_three o a b c h; bytes = refl })
