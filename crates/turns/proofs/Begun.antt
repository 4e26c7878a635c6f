-- WHERE A TOKEN BEGINS, what is computed is what the machine says. A symbol is none of the characters that are asked for after it.
use Prim.Native.Nat.{ℕ}
use mathlib.Core.Path.{◌≡◌, refl, ◌∙◌}
use mathlib.Core.List.{List, [], ◌∷◌}
use mathlib.Core.Bool.{Bool, true, false}
use lib.Dec.{eqb}
use native.Mathlib.Omega.{arith}
use borrow.Author.Tests.{eqb-true}
use Rattle.basics.specs.Choice.{pick, or}
use Rattle.classes.specs.Identifiers.{digit}
use Rattle.classes.specs.Emoji.{emoji_char}
use Rattle.classes.specs.Whitespace.{is_whitespace}
use Rattle.token.specs.Names.{is, 'double', '#', 'single', '/', '0', 'b', 'c', 'k', 'r'}
use Rattle.token.specs.Lists.{Lists, starting, smiling}
use Rattle.token.specs.Punctuation.{Symbol, symbols, is_symbol}
use Rattle.machine.specs.declared.Mode.{Mode}
use Rattle.machine.specs.declared.Mode.TheVariants.{Start, OneSlash, InWord, InBadWord, InString, GotR, GotK, GotB, GotC, GotHash, GotQuote, GotZero, InDigits}
use Rattle.machine.specs.Machine.{Next, taken, at_other, at_start}
use Rattle.goes.proofs.Choices.{of_first, of_first_as}
use Rattle.turns.specs.declared.Shown.TheVariants.{Line, None}
use Rattle.turns.specs.First.{late_mode, other_mode, first, first_of, begun}

-- what holds of the code of each symbol holds of a symbol
module _ (P : ℕ → Type 0) (c : ℕ) where
  data Each : List Symbol → Type 0 where
    none : Each []
    one : {x : Symbol} {l : List Symbol} → P x.code → Each l → Each (x ∷ l)

  either : (n : ℕ) (rest b : Bool) → eqb c n ≡ b → or b rest ≡ true → P n → (rest ≡ true → P c) → P c
  either n rest true q e h k = rw (eqb-true c n q) h
  either n rest false q e h k = k e

  found : (l : List Symbol) → Each l → is_symbol l c ≡ true → P c
  found [] h e = absurd (let z : ◌≡◌ {A = ℕ} 0 1 = cc in omega arith)
  found (x ∷ l) (one h hs) e = either x.code (is_symbol l c) (eqb c x.code) refl e h (found l hs)

module _ (L : Lists) (p c : ℕ) where
  abbrev F : Mode → Next
  F m = taken c m p

  -- what the machine asks for after the symbols
  abbrev late : (n : ℕ) → Next
  late n = pick (is 'single' n) (F GotQuote) (pick (is 'double' n) (F InString) (pick (smiling L n) (F InBadWord) (F (Start false))))

  symbol_late : (b : Bool) → is_symbol symbols c ≡ b → late c ≡ pick b (F (Start false)) (late c)
  unfolding emoji_char
  symbol_late false e = refl
  symbol_late true e = found (λ (n : ℕ). late n ≡ F (Start false)) c symbols (one refl (one refl (one refl (one refl (one refl (one refl (one refl (one refl (one refl (one refl (one refl (one refl (one refl (one refl (one refl (one refl (one refl (one refl (one refl (one refl (one refl (one refl (one refl (one refl (one refl (one refl none)))))))))))))))))))))))))) e

  late_last : F (pick (is 'single' c) GotQuote (pick (is 'double' c) InString (pick (smiling L c) InBadWord (Start false)))) ≡ late c
  late_last = of_first F ((is 'single' c, GotQuote) ∷ (is 'double' c, InString) ∷ (smiling L c, InBadWord) ∷ []) (Start false)

  late_as : F (late_mode L c) ≡ pick (is '#' c) (F GotHash) (pick (is_symbol symbols c) (F (Start false)) (late c))
  late_as = of_first_as F ((is '#' c, GotHash) ∷ []) (late_last ∙ symbol_late (is_symbol symbols c) refl)

  other_as : F (other_mode L c) ≡ at_other L p c
  unfolding at_other
  other_as = of_first_as F ((is 'r' c, GotR) ∷ (is 'k' c, GotK) ∷ (is 'b' c, GotB) ∷ (is 'c' c, GotC) ∷ (starting L c, InWord) ∷ (digit c, pick (is '0' c) GotZero InDigits) ∷ []) late_as

  pub first_as : (gap : Bool) → begun p c (first_of L gap c) ≡ at_start L p gap c
  unfolding at_start
  first_as true = of_first_as (begun p c) ((is '/' c, first None (OneSlash true)) ∷ (is_whitespace c, first None (Start true)) ∷ []) other_as
  first_as false = of_first_as (begun p c) ((is '/' c, first None (OneSlash false)) ∷ (is_whitespace c, first Line (Start true)) ∷ []) other_as
