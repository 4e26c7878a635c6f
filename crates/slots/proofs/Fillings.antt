-- The numbers of the tokens written one token after the other, in the facts of the code.
use Prim.Native.Nat.{ℕ, ◌*◌, ◌<◌, ◌≤◌}
use mathlib.Core.Path.{◌≡◌, refl, ap, ◌∙◌}
use mathlib.Core.Bool.{Bool, true}
use mathlib.Core.List.{List, [], ◌∷◌, ◌++◌}
use lib.ListN.{length, drop, length-append}
use native.Mathlib.Omega.{arith}
use Rattle.text.specs.Chars.{chars}
use Rattle.text.specs.Position.{on_boundary}
use Rattle.token.specs.declared.Token.{Token}
use Rattle.token.specs.Lists.{Lists}
use Rattle.token.specs.Tokens.{records}
use Rattle.lexer.specs.declared.Scan.{Scan}
use Rattle.lexer.specs.Steps.{start_of, next_of, records_past}
use Rattle.lexer.specs.Checked.{Checked}
use Rattle.lexer.specs.Ready.{Lined}
use Rattle.lexer.proofs.Walks.{begins_on, Char, char_there, records_end, begins_there, next_edged, next_records, fewer}
use Rattle.puts.specs.Put.{Put}
use Rattle.puts.proofs.Joining.{Joining, joining_none, joined_room, joined_on, joined_long, joined_all}
use Rattle.slots.specs.Numbers.{width, slot_of, numbers_of}
use Rattle.slots.specs.Fills.{TokenFits, FilledSlots}

-- so many numbers a token
pub numbers_long : (ts : List Token) → length (numbers_of ts) ≡ width * length ts
numbers_long [] = refl
numbers_long (t ∷ ts) = omega (arith, length-append (slot_of t) (numbers_of ts), numbers_long ts)

-- THE NUMBERS SO FAR: the position is on a boundary; those put and those of the tokens from there on are the text's
pub record Slotting (L : Lists) (s : List ℕ) (on : Bool) (before out : List ℕ) (n : ℕ) (c : Scan) : Type 0 where
  pub edged : on_boundary s c.next ≡ true
  pub lined : Lined s c
  pub joined : Joining slot_of (numbers_of (records L on s)) before out n (records_past L s c)

pub slotting_none : {L : Lists} {s : List ℕ} {on : Bool} {before : List ℕ} {c : Scan} → c ≡ start_of on → Lined s c → Slotting L s on before before 0 c
slotting_none {L} {s} {on} {before} {c} e r = record { edged = rw e (begins_on (chars s)); lined = r; joined = rw e (joining_none slot_of before (records L on s)) }

module _ {L : Lists} {s : List ℕ} {on : Bool} {before out : List ℕ} {n : ℕ} {c : Scan} (m : Slotting L s on before out n c) where
  -- the end
  pub slotted_all : length s ≤ c.next → FilledSlots L s on before out
  slotted_all h =
      let none : Joining slot_of (numbers_of (records L on s)) before out n [] = rw (records_end L s c h) at m.joined in
      joined_all none ∙ ap (λ (j : ℕ). numbers_of (records L on s) ++ drop j before) (joined_long none ∙ numbers_long (records L on s))

  module _ {x : Scan} (checked : Checked s L) (l : c.next < length s) (e : x ≡ next_of L s c) where
    there : Char (chars (drop c.next s))
    there = char_there s c.next checked.well m.edged l

    -- the token here, and those past it
    here : Joining slot_of (numbers_of (records L on s)) before out n (x.token ∷ records_past L s x)
    here = rw (next_records L s c e there) at m.joined

    pub slotted_less : length (chars (drop x.next s)) < length (chars (drop c.next s))
    slotted_less = fewer L s c e there

    pub slotted_fits : width * length (records L on s) ≤ length before → TokenFits out n x.token
    slotted_fits h = record {
      room = joined_room here (omega (arith, numbers_long (records L on s), h));
      narrow = omega (arith, begins_there L s c e, l, checked.fits);
    }

    pub slotted_on : {p : List ℕ} {r : ℕ} → Lined s x → Put (slot_of x.token) out n p r → Slotting L s on before p r x
    slotted_on r u = record { edged = next_edged L s c e m.edged; lined = r; joined = joined_on here u }
