-- What can be read now, by the cases of the verdict on the bytes.
use Rattle.std.specs.Prelude.{Err, None}
use Prim.Native.Nat.{ℕ, ◌-◌, ◌≤◌}
use mathlib.Core.Path.{◌≡◌, sym, ap, ◌∙◌}
use mathlib.Core.List.{List}
use lib.ListN.{length}
use native.Mathlib.Omega.{arith}
use Rattle.refusal.specs.declared.Bad.{Bad}
use Rattle.refusal.specs.Verdict.{Verdict, fine}
use Rattle.text.specs.Verdicts.{utf8_verdict}
use Rattle.waits.specs.declared.Ready.{Ready}
use Rattle.waits.specs.Waits.{last_returns, up_to, ready_by, ready_of}
use Rattle.waits.proofs.Returns.{few_returns}

pub returns_within : (s : List ℕ) {n : ℕ} → n ≡ length (last_returns s) → n ≤ length s
returns_within s e = omega (arith, e, few_returns s)

module _ (s : List ℕ) {v : Verdict} (u : v ≡ utf8_verdict s) where
  pub ready_fine : {n m : ℕ} → v ≡ fine → n ≡ length (last_returns s) → m ≡ length s - n → record { bytes = m; ill = None } ≡ ready_of s
  unfolding ready_of
  ready_fine e q z = ap (λ (k : ℕ). record { bytes = k; ill = None }) (z ∙ rw q) ∙ ap (ready_by (length s - length (last_returns s))) (sym e ∙ u)

  pub ready_refused : {b : Bad} {r : Ready} → v ≡ Err b → r ≡ up_to b → r ≡ ready_of s
  unfolding ready_of
  ready_refused e q = q ∙ ap (ready_by (length s - length (last_returns s))) (sym e ∙ u)
