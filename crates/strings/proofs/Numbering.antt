-- Answers by number, in the facts of the code.
use Rattle.std.specs.Prelude.{Option, Result, Ok}
use Prim.Native.Nat.{ℕ}
use mathlib.Core.Path.{◌≡◌, ◌∙◌}
use Rattle.refusal.specs.declared.Numbers.{Numbers}
use Rattle.refusal.specs.declared.PlaceRefusal.{PlaceRefusal}
use Rattle.refusal.specs.Numbers.{numbers}
use Rattle.token.specs.declared.RawStrError.{RawStrError}
use Rattle.token.specs.declared.RawStrError.TheVariants.{InvalidStarter, NoTerminator, TooManyDelimiters}
use Rattle.strings.specs.declared.GuardedAt.{GuardedAt}
use Rattle.strings.specs.RawChecks.{error_numbers}
use Rattle.strings.specs.Guards.{is_found, guarded_numbers}

module _ {a : RawStrError} {c w : ℕ} {n : Numbers} (f : w ≡ c) where
  pub starter_numbers : a ≡ InvalidStarter c → n ≡ numbers 0 1 w → n ≡ error_numbers a
  starter_numbers e m = m ∙ rw (e, f)

  pub terminator_numbers : {d : ℕ} {o : Option ℕ} → a ≡ NoTerminator c d o → n ≡ numbers 0 2 w → n ≡ error_numbers a
  terminator_numbers e m = m ∙ rw (e, f)

  pub delimiters_numbers : a ≡ TooManyDelimiters c → n ≡ numbers 0 3 w → n ≡ error_numbers a
  delimiters_numbers e m = m ∙ rw (e, f)

pub guarded_given_numbers : {a : Result GuardedAt PlaceRefusal} {x : GuardedAt} {k : ℕ} {n : Numbers} → a ≡ Ok x → k ≡ is_found x.found → n ≡ numbers 0 x.next k → n ≡ guarded_numbers a
guarded_given_numbers e f m = m ∙ rw (e, f)
