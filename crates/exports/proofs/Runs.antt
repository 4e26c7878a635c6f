-- The numbers of the tokens from a position on, written one token after the other until the text or the slots end, in the facts of the code.
use Prim.Native.Nat.{ℕ, zero, suc, ◌-◌, ◌*◌, ◌/◌, ◌≤◌, ◌<◌}
use mathlib.Core.Path.{◌≡◌, refl, sym, ap, subst, ◌∙◌}
use mathlib.Core.Bool.{Bool, true}
use mathlib.Core.List.{List, [], ◌∷◌, ◌++◌}
use lib.ListN.{length, take, drop}
use native.Mathlib.Omega.{arith}
use Rattle.text.specs.Chars.{chars}
use Rattle.text.specs.Position.{on_boundary}
use Rattle.token.specs.declared.Token.{Token}
use Rattle.token.specs.Lists.{Lists}
use Rattle.lexer.specs.declared.Scan.{Scan}
use Rattle.lexer.specs.Steps.{before_of, next_of, records_past}
use Rattle.lexer.specs.Checked.{Checked}
use Rattle.lexer.specs.Ready.{Lined}
use Rattle.lexer.proofs.Checks.{edge_within}
use Rattle.lexer.proofs.Walks.{Char, char_there, records_end, begins_there, next_edged, next_records}
use Rattle.puts.specs.Put.{Put}
use Rattle.puts.proofs.Joining.{Joining, joining_none, joined_room, joined_on, joined_long, joined_all}
use Rattle.slots.specs.Numbers.{width, slot_of, numbers_of}
use Rattle.slots.specs.Fills.{TokenFits}
use Rattle.slots.proofs.Fillings.{numbers_long}
use Rattle.exports.specs.declared.RunAnswer.{RunAnswer}
use Rattle.exports.specs.Runs.{first_tokens, stepped, ran_out}
use Rattle.exports.specs.Going.{RunPut}

-- no more are taken than there are slots
take_few : {A : Type 0} (n : ℕ) (xs : List A) → length (take n xs) ≤ n
take_few zero xs = omega arith
take_few (suc n) [] = omega arith
take_few (suc n) (x ∷ xs) = omega (arith, take_few n xs)

-- one more is taken where a slot is left
take_one : {A : Type 0} (n : ℕ) (x : A) (xs : List A) → 0 < n → take n (x ∷ xs) ≡ x ∷ take (n - 1) xs
take_one zero x xs h = absurd (omega arith)
take_one (suc n) x xs h =
    let one : n ≡ suc n - 1 = omega arith in
    ap (λ (k : ℕ). x ∷ take k xs) one

pub take_none : (n : ℕ) (ts : List Token) → ts ≡ [] → take n ts ≡ []
take_none zero ts e = refl
take_none (suc n) [] e = refl
take_none (suc n) (t ∷ ts) e = absurd (omega (arith, ap length e))

take_zero : (n : ℕ) (ts : List Token) → n ≤ 0 → take n ts ≡ []
take_zero zero ts h = refl
take_zero (suc n) ts h = absurd (omega arith)

-- the position is in the text, which is within the limit
pub going_within : (s : List ℕ) (at : ℕ) → on_boundary s at ≡ true → at ≤ length s
going_within s at g = edge_within s at g

-- SO FAR: the position is on a boundary; the numbers put and those of the tokens still to be put are the run's; so many steps on the run ends
pub record Running (L : Lists) (s : List ℕ) (at : ℕ) (on : Bool) (before out : List ℕ) (left used : ℕ) (c : Scan) : Type 0 where
  pub edged : on_boundary s c.next ≡ true
  pub lined : Lined s c
  pub joined : Joining slot_of (numbers_of (first_tokens L s at on (length before / width))) before out used (take left (records_past L s c))
  pub ends : stepped L s (length (take left (records_past L s c))) c ≡ stepped L s (length (first_tokens L s at on (length before / width))) (before_of s at on)

pub running_none : {L : Lists} {s : List ℕ} {at : ℕ} {on : Bool} {before : List ℕ} {left : ℕ} {c : Scan} → on_boundary s at ≡ true → left ≡ length before / width → c ≡ before_of s at on → Lined s c → Running L s at on before before left 0 c
running_none {L} {s} {at} {on} {before} g f e r = record { edged = rw e g; lined = r; joined = rw (e, f) (joining_none slot_of before (first_tokens L s at on (length before / width))); ends = rw (e, f) refl }

-- so many slots are left, counted in another way
pub running_less : {L : Lists} {s : List ℕ} {at : ℕ} {on : Bool} {before out : List ℕ} {left few used : ℕ} {c : Scan} → left ≡ few → Running L s at on before out left used c → Running L s at on before out few used c
running_less {L} {s} {at} {on} {before} {out} {left} {few} {used} {c} e m = subst (λ (n : ℕ). Running L s at on before out n used c) e m

module _ {L : Lists} {s : List ℕ} {at : ℕ} {on : Bool} {before out : List ℕ} {left used : ℕ} {c : Scan} (m : Running L s at on before out left used c) where
  -- A TURN: a slot is left, and a character
  module _ {x : Scan} (checked : Checked s L) (h : 0 < left) (l : c.next < length s) (e : x ≡ next_of L s c) where
    there : Char (chars (drop c.next s))
    there = char_there s c.next checked.well m.edged l

    -- the token here, and those to be put past it
    more : take left (records_past L s c) ≡ x.token ∷ take (left - 1) (records_past L s x)
    more = ap (take left) (next_records L s c e there) ∙ take_one left x.token (records_past L s x) h

    here : Joining slot_of (numbers_of (first_tokens L s at on (length before / width))) before out used (x.token ∷ take (left - 1) (records_past L s x))
    here = rw more at m.joined

    pub running_fits : TokenFits out used x.token
    running_fits = record {
      room = joined_room here (omega (arith, numbers_long (first_tokens L s at on (length before / width)), take_few (length before / width) (records_past L s (before_of s at on))));
      narrow = omega (arith, begins_there L s c e, l, checked.fits);
    }

    pub running_on : {p : List ℕ} {r : ℕ} → Lined s x → Put (slot_of x.token) out used p r → Running L s at on before p (left - 1) r x
    running_on k u = record {
      edged = next_edged L s c e m.edged;
      lined = k;
      joined = joined_on here u;
      ends = ap (stepped L s (length (take (left - 1) (records_past L s x)))) e ∙ sym (ap (λ (ts : List Token). stepped L s (length ts) c) more) ∙ m.ends;
    }

  -- a slot is `width` numbers
  tokens_used : {n : ℕ} → used ≡ width * n → n ≡ used / width
  tokens_used u = omega (arith, u)

  -- THE END: nothing is still to be put
  ran : take left (records_past L s c) ≡ [] → RunPut L s at on before out (ran_out (used / width) c)
  ran z =
      let none : Joining slot_of (numbers_of (first_tokens L s at on (length before / width))) before out used [] = rw z at m.joined in
      let wide : used ≡ width * length (first_tokens L s at on (length before / width)) = joined_long none ∙ numbers_long (first_tokens L s at on (length before / width)) in
      let all : c ≡ stepped L s (length (first_tokens L s at on (length before / width))) (before_of s at on) = rw z at m.ends in
      record {
        answer = ap (λ (k : ℕ). ran_out k c) (omega (arith, wide)) ∙ ap (ran_out (length (first_tokens L s at on (length before / width)))) all;
        holds = joined_all none ∙ ap (λ (k : ℕ). numbers_of (first_tokens L s at on (length before / width)) ++ drop k before) wide;
      }

  pub ran_full : {n : ℕ} {r : RunAnswer} → left ≤ 0 → used ≡ width * n → r ≡ ran_out n c → RunPut L s at on before out r
  ran_full h u e = rw (e, tokens_used u) (ran (take_zero left (records_past L s c) h))

  pub ran_over : {n : ℕ} {r : RunAnswer} → length s ≤ c.next → used ≡ width * n → r ≡ ran_out n c → RunPut L s at on before out r
  ran_over h u e = rw (e, tokens_used u) (ran (take_none left (records_past L s c) (records_end L s c h)))
