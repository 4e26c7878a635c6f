-- Going on loses nothing: a text that is asked for in parts, each from where the one before it ended, gives the tokens that one call gives.
use Prim.Native.Nat.{ℕ, zero, suc, ◌+◌, ◌≤◌}
use mathlib.Core.Path.{◌≡◌, refl, sym, ap, ◌∙◌}
use mathlib.Core.Bool.{Bool, true}
use mathlib.Core.List.{List, [], ◌∷◌, ◌++◌}
use lib.ListN.{length, take, drop}
use lib.Seq.{take_all}
use native.Mathlib.Omega.{arith}
use Rattle.text.specs.Chars.{chars}
use Rattle.text.specs.Position.{on_boundary}
use Rattle.token.specs.declared.Token.{Token}
use Rattle.token.specs.Lists.{Lists}
use Rattle.token.specs.Tokens.{records}
use Rattle.lexer.specs.declared.Scan.{Scan}
use Rattle.lexer.specs.Steps.{before_of, next_of, records_past}
use Rattle.lexer.proofs.Walks.{records_none, next_edged, next_records}
use Rattle.exports.specs.Runs.{first_tokens, stepped, ran_over}
use Rattle.exports.proofs.Runs.{take_none}

-- what is left of the tokens past a scan, n of them taken
abbrev left_past : Lists → (s : List ℕ) (n : ℕ) → Scan → List Token
left_past L s n c = records_past L s (stepped L s (length (take n (records_past L s c))) c)

module _ (L : Lists) (s : List ℕ) (k : ℕ) where
  -- one token is taken, and then n
  one_more : (n : ℕ) (c : Scan) → records_past L s c ≡ (next_of L s c).token ∷ records_past L s (next_of L s c)
      → take (n + k) (records_past L s (next_of L s c)) ≡ take n (records_past L s (next_of L s c)) ++ take k (left_past L s n (next_of L s c))
      → take (suc n + k) (records_past L s c) ≡ take (suc n) (records_past L s c) ++ take k (left_past L s (suc n) c)
  one_more n c e h =
      let x : Scan = next_of L s c in
      let z : suc n + k ≡ suc (n + k) = omega arith in
      let f : List Token → List Token = λ ts. take (suc n) ts ++ take k (records_past L s (stepped L s (length (take (suc n) ts)) c)) in
      ap (λ (j : ℕ). take j (records_past L s c)) z ∙ ap (take (suc (n + k))) e ∙ ap (λ (ts : List Token). x.token ∷ ts) h ∙ sym (ap f e)

  by_character : (n : ℕ) (c : Scan) (cs : List ℕ) → chars (drop c.next s) ≡ cs
      → ((x : Scan) → take (n + k) (records_past L s x) ≡ take n (records_past L s x) ++ take k (left_past L s n x))
      → take (suc n + k) (records_past L s c) ≡ take (suc n) (records_past L s c) ++ take k (left_past L s (suc n) c)
  by_character n c [] e h =
      let none : records_past L s c ≡ [] = records_none L s c e in
      let f : List Token → List Token = λ ts. take (suc n) ts ++ take k (records_past L s (stepped L s (length (take (suc n) ts)) c)) in
      take_none (suc n + k) (records_past L s c) none ∙ sym (ap f none ∙ take_none k (records_past L s c) none)
  by_character n c (d ∷ cs) e h = one_more n c (next_records L s c refl (d, cs, e)) (h (next_of L s c))

  parts : (n : ℕ) (c : Scan) → take (n + k) (records_past L s c) ≡ take n (records_past L s c) ++ take k (left_past L s n c)
  parts zero c =
      let z : 0 + k ≡ k = omega arith in
      ap (λ (j : ℕ). take j (records_past L s c)) z
  parts (suc n) c = by_character n c (chars (drop c.next s)) refl (parts n)

-- TWO CALLS, the second from where the first ended, give what one call gives that has the slots of both
pub parts_join : (L : Lists) (s : List ℕ) (at : ℕ) (on : Bool) (n k : ℕ)
    → let r = ran_over L s at on (first_tokens L s at on n) in
    first_tokens L s at on (n + k) ≡ first_tokens L s at on n ++ first_tokens L s r.next r.on k
parts_join L s at on n k = parts L s k n (before_of s at on)

-- every step ends on a boundary
stepped_edged : (L : Lists) (s : List ℕ) (n : ℕ) (c : Scan) → on_boundary s c.next ≡ true → on_boundary s (stepped L s n c).next ≡ true
stepped_edged L s zero c b = b
stepped_edged L s (suc n) c b = stepped_edged L s n (next_of L s c) (next_edged L s c refl b)

-- AND THE SECOND is not refused its position
pub goes_on : (L : Lists) (s : List ℕ) (at : ℕ) (on : Bool) (ts : List Token) → on_boundary s at ≡ true → on_boundary s (ran_over L s at on ts).next ≡ true
goes_on L s at on ts b = stepped_edged L s (length ts) (before_of s at on) b

-- FROM THE BEGINNING, with a slot for each, it gives the tokens that the list call gives
pub gives_all : (L : Lists) (s : List ℕ) (on : Bool) (n : ℕ) → length (records L on s) ≤ n → first_tokens L s 0 on n ≡ records L on s
gives_all L s on n h = take_all n (records L on s) h
