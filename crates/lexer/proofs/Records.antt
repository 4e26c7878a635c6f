-- Steps one after the other give the records of the text; a position that a step hands back is on a boundary.
use Prim.Native.Nat.{ℕ, zero, suc, ◌+◌, ◌-◌, ◌≤◌}
use mathlib.Core.Path.{◌≡◌, refl, sym, ap, ◌∙◌}
use mathlib.Core.Bool.{Bool, true, false}
use mathlib.Core.List.{List, [], ◌∷◌, ◌++◌, append_assoc}
use lib.ListN.{length, take, drop, take-append-drop}
use lib.Dec.{eqb, leb}
use lib.Seq.{drop-drop}
use borrow.Author.Tests.{le-leb}
use native.Mathlib.Omega.{arith}
use Rattle.basics.specs.Choice.{or}
use Rattle.text.specs.Chars.{chars, width, size}
use Rattle.text.specs.Position.{edge, on_boundary}
use Rattle.text.proofs.Positions.{boundary_parts}
use Rattle.text.proofs.Coding.{Fact}
use Rattle.text.proofs.Texts.{by_chars}
use Rattle.token.specs.declared.Token as token
use Rattle.token.specs.Lists.{Lists}
use Rattle.token.specs.Advance.{advance}
use Rattle.token.specs.Tokens.{tokens, in_place, placed}
use Rattle.token.proofs.Cover.{tokens_step, advance_room, size_append}
use Rattle.lexer.specs.Scans.{token_size, bare_at, records_from}

-- past the bytes of the first k characters, the other characters are left
pub chars_past : (s : List ℕ) (k : ℕ) → k ≤ length (chars s) → chars (drop (size (take k (chars s))) s) ≡ drop k (chars s)
chars_past = by_chars (λ (s : List ℕ). (k : ℕ) → k ≤ length (chars s) → chars (drop (size (take k (chars s))) s) ≡ drop k (chars s))
    (λ s n k h. nothing s n k)
    (λ s c w d f n ih k h. some s c w f n ih k h)
  where
    nothing : (s : List ℕ) → chars s ≡ [] → (k : ℕ) → chars (drop (size (take k (chars s))) s) ≡ drop k (chars s)
    nothing s n zero = refl
    nothing s n (suc k) = rw n n

    some : (s : List ℕ) (c w : ℕ) → Fact s c w → chars s ≡ c ∷ chars (drop w s) → ((k : ℕ) → k ≤ length (chars (drop w s)) → chars (drop (size (take k (chars (drop w s)))) (drop w s)) ≡ drop k (chars (drop w s))) → (k : ℕ) → k ≤ length (chars s) → chars (drop (size (take k (chars s))) s) ≡ drop k (chars s)
    some s c w f n ih zero h = refl
    some s c w f n ih (suc k) h =
        let m : size (take (suc k) (chars s)) ≡ w + size (take k (chars (drop w s))) = ap (λ (l : List ℕ). size (take (suc k) l)) n ∙ ap (λ (j : ℕ). j + size (take k (chars (drop w s)))) f.wide in
        let l : k ≤ length (chars (drop w s)) = omega (arith, ap length n) in
        ap (λ (j : ℕ). chars (drop j s)) m ∙ ap chars (sym (drop-drop (size (take k (chars (drop w s)))) w s)) ∙ ih k l ∙ sym (ap (drop (suc k)) n)

module _ (L : Lists) (s : List ℕ) (at : ℕ) (on : Bool) where
  -- what is left past the token at a position
  pub past_token : chars (drop (bare_at L s at on).next s) ≡ drop (advance L on (chars (drop at s))).took (chars (drop at s))
  unfolding bare_at token_size
  past_token =
      ap chars (sym (drop-drop (token_size L on (chars (drop at s))) at s))
      ∙ chars_past (drop at s) (advance L on (chars (drop at s))).took (advance_room L on (chars (drop at s)))

  -- at a character: the token there in its place, and then the records from the next position on
  pub step_records : (c : ℕ) (cs : List ℕ) → chars (drop at s) ≡ c ∷ cs → records_from L s at on ≡ in_place s at (bare_at L s at on).kind (bare_at L s at on).len ∷ records_from L s (bare_at L s at on).next (bare_at L s at on).on
  unfolding bare_at token_size
  step_records c cs e =
      ap (λ (l : List ℕ). placed s at (tokens L on l)) e ∙ ap (placed s at) (tokens_step L on c cs) ∙ sym (ap row e)
      ∙ ap (λ (l : List ℕ). in_place s at (bare_at L s at on).kind (bare_at L s at on).len ∷ placed s (bare_at L s at on).next (tokens L (bare_at L s at on).on l)) (sym past_token)
    where
      row : List ℕ → List token.Token
      row l = in_place s at (advance L on l).said.kind (token_size L on l) ∷ placed s (at + token_size L on l) (tokens L (advance L on l).said.on (drop (advance L on l).took l))

-- characters end where their bytes do
edge_size : (u v : List ℕ) → edge (u ++ v) (size u) ≡ true
unfolding edge
edge_size [] [] = refl
edge_size [] (c ∷ v) = refl
edge_size (c ∷ u) v =
    let k : width c + size u - width c ≡ size u = omega arith in
    let m : leb (width c) (width c + size u) ≡ true = le-leb (width c) (width c + size u) (omega arith) in
    either (eqb (width c + size u) 0) (rw (m, k) (edge_size u v))
  where
    either : (t : Bool) {b : Bool} → b ≡ true → or t b ≡ true
    either true e = refl
    either false e = e

-- THE NEXT POSITION is on a boundary where this one is: handed back, it is never refused
pub next_boundary : (L : Lists) (s : List ℕ) (at : ℕ) (on : Bool) → on_boundary s at ≡ true → on_boundary s (bare_at L s at on).next ≡ true
unfolding bare_at token_size
next_boundary L s at on e =
    let p = boundary_parts s at e in
    let cs = chars (drop at s) in
    let k = (advance L on cs).took in
    let w : (p.before ++ take k cs) ++ drop k cs ≡ chars s = append_assoc p.before (take k cs) (drop k cs) ∙ ap (λ (l : List ℕ). p.before ++ l) (take-append-drop k cs) ∙ p.joined in
    let n : size (p.before ++ take k cs) ≡ at + size (take k cs) = size_append p.before (take k cs) ∙ ap (λ (m : ℕ). m + size (take k cs)) p.bytes in
    sym (ap (λ (l : List ℕ). edge l (at + size (take k cs))) w) ∙ sym (ap (edge ((p.before ++ take k cs) ++ drop k cs)) n) ∙ edge_size (p.before ++ take k cs) (drop k cs)
