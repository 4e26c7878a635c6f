-- The count of a text's tokens, step by step; and the tokens of steps one after the other are the records of the text.
use Prim.Native.Nat.{ℕ, zero, suc, ◌+◌, ◌≤◌, ◌<◌}
use mathlib.Core.Path.{◌≡◌, refl, sym, ap, ◌∙◌}
use mathlib.Core.Bool.{Bool, true}
use mathlib.Core.Logic.{⊎_elim}
use mathlib.Core.List.{List, [], ◌∷◌}
use lib.ListN.{length, drop}
use native.Mathlib.Omega.{arith}
use Rattle.basics.proofs.Choices.{below_or_not}
use Rattle.text.specs.Chars.{chars, WellFormed}
use Rattle.text.specs.Position.{on_boundary}
use Rattle.token.specs.declared.Token.{Token}
use Rattle.token.specs.Lists.{Lists}
use Rattle.token.specs.Tokens.{records}
use Rattle.token.proofs.Cover.{few_records}
use Rattle.lexer.specs.declared.Bare.{Bare}
use Rattle.lexer.specs.declared.Scan.{Scan}
use Rattle.lexer.specs.Checked.{Checked}
use Rattle.lexer.specs.Scans.{bare_at, records_from}
use Rattle.lexer.specs.Steps.{start_of, next_of, following, records_past}
use Rattle.lexer.proofs.Walks.{begins_on, Char, char_there, end_from, past_edged, records_on, fewer_left, records_end, next_edged, next_records}

-- A COUNT SO FAR: the position is on a boundary, and the tokens counted and those from there on are the text's
pub record Counted (L : Lists) (s : List ℕ) (on : Bool) (n at : ℕ) (here : Bool) : Type 0 where
  pub edged : on_boundary s at ≡ true
  pub total : n + length (records_from L s at here) ≡ length (records L on s)

pub counted_none : (L : Lists) (s : List ℕ) (on : Bool) → Counted L s on 0 0 on
counted_none L s on = record { edged = begins_on (chars s); total = omega arith }

module _ {L : Lists} {s : List ℕ} {on : Bool} {n at : ℕ} {here : Bool} (k : Counted L s on n at here) where
  pub count_fits : Checked s L → n + 1 < 18446744073709551616
  count_fits h = omega (arith, h.fits, k.total, few_records L on s)

  pub counted_all : length s ≤ at → n ≡ length (records L on s)
  counted_all h = omega (arith, k.total, ap length (end_from L s at here h))

  module _ {x : Bare} (ready : Checked s L) (l : at < length s) (e : x ≡ bare_at L s at here) where
    there : Char (chars (drop at s))
    there = char_there s at ready.well k.edged l

    pub counted_less : length (chars (drop x.next s)) < length (chars (drop at s))
    counted_less = fewer_left L s at here e there

    pub counted_on : Counted L s on (n + 1) x.next x.on
    counted_on = record { edged = past_edged L s at here e k.edged; total = omega (arith, k.total, ap length (records_on L s at here e there)) }

-- THE TOKENS of as many steps as there are records are the records
module _ (L : Lists) (s : List ℕ) (w : WellFormed s) where
  empty : (l : List Token) → length l ≡ 0 → [] ≡ l
  empty [] e = refl
  empty (t ∷ l) e = absurd (omega (arith, e))

  there_or : (c : Scan) → on_boundary s c.next ≡ true → 1 ≤ length (records_past L s c) → Char (chars (drop c.next s))
  there_or c b h = ⊎_elim (λ l. char_there s c.next w b l) (λ l. absurd (omega (arith, ap length (records_end L s c l)))) (below_or_not c.next (length s))

  steps_from : (n : ℕ) (c : Scan) → on_boundary s c.next ≡ true → length (records_past L s c) ≡ n → following L s n c ≡ records_past L s c
  steps_from zero c b e = empty (records_past L s c) e
  steps_from (suc n) c b e =
      let z : records_past L s c ≡ (next_of L s c).token ∷ records_past L s (next_of L s c) = next_records L s c refl (there_or c b (omega (arith, e))) in
      ap {B = List Token} (λ r. (next_of L s c).token ∷ r) (steps_from n (next_of L s c) (next_edged L s c refl b) (omega (arith, ap length z, e))) ∙ sym z

  pub steps_records : (on : Bool) → following L s (length (records L on s)) (start_of on) ≡ records L on s
  steps_records on = steps_from (length (records L on s)) (start_of on) (begins_on (chars s)) refl
