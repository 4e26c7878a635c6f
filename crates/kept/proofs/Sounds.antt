-- Which states are taken, test by test.
use Prim.Native.Nat.{ℕ, ◌+◌, ◌-◌, ◌≤◌, ◌<◌}
use mathlib.Core.Path.{◌≡◌, refl, sym, ap, ◌∙◌}
use mathlib.Core.Bool.{Bool, true, false}
use lib.ListN.{length}
use lib.Dec.{leb}
use borrow.Author.Tests.{le-leb, lt-leb}
use native.Mathlib.Omega.{arith}
use Rattle.basics.specs.Choice.{and}
use Rattle.machine.specs.Pieces.{deepest}
use Rattle.key_state.specs.declared.KeyState.{KeyState}
use Rattle.key_state.specs.Kept.{kept_bytes}
use Rattle.key_state.specs.Sound.{sound}

and_none : (t : Bool) → false ≡ and t false
and_none true = refl
and_none false = refl

module _ (st : KeyState) where
  pub over_count : 4294967296 < st.count → false ≡ sound st
  over_count h = sym (ap (λ (t : Bool). and t (and (leb (st.machine.at + length (kept_bytes st.kept)) st.count) (leb (deepest st.machine.mode) st.machine.at))) (lt-leb _ _ h))

  not_read : st.count < st.machine.at + length (kept_bytes st.kept) → false ≡ sound st
  not_read h = and_none (leb st.count 4294967296) ∙ sym (ap (λ (t : Bool). and (leb st.count 4294967296) (and t (leb (deepest st.machine.mode) st.machine.at))) (lt-leb _ _ h))

  pub over_kept : {n : ℕ} → n ≡ length (kept_bytes st.kept) → st.count < n → false ≡ sound st
  over_kept e h = not_read (omega (arith, e, h))

  pub over_read : {n : ℕ} → n ≡ length (kept_bytes st.kept) → n ≤ st.count → st.count - n < st.machine.at → false ≡ sound st
  over_read e g h = not_read (omega (arith, e, g, h))

  pub by_depth : {n d : ℕ} → st.count ≤ 4294967296 → n ≡ length (kept_bytes st.kept) → n ≤ st.count → st.machine.at ≤ st.count - n → d ≡ deepest st.machine.mode → leb d st.machine.at ≡ sound st
  by_depth c e g h q = rw (le-leb _ _ c, le-leb (st.machine.at + length (kept_bytes st.kept)) st.count (omega (arith, e, g, h)), q)
