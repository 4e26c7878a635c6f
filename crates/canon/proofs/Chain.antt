-- The tokens of characters, frontmatter off, as a chain of one token after another.
use Prim.Native.Nat.{ℕ, ◌≤◌}
use mathlib.Core.Path.{◌≡◌, refl, ap, subst, ◌∙◌}
use mathlib.Core.List.{List, [], ◌∷◌, ◌++◌}
use mathlib.Core.Bool.{Bool, true, false}
use lib.ListN.{length, drop, take, take-append-drop}
use lib.Seq.{length-take-le, take-append_seam, drop-append_seam}
use native.Mathlib.Omega.{arith}
use Rattle.token.specs.declared.TokenKind.{TokenKind}
use Rattle.token.specs.Lists.{Lists}
use Rattle.token.specs.Advance.{advance}
use Rattle.token.specs.Tokens.{Piece, tokens_after, tokens}
use Rattle.token.proofs.Cover.{tokens_step, by_tokens, advance_room, advance_some, off_stays}

-- ts are the tokens of cs: the token at u ++ a takes u, and the tokens of a follow
pub data Chain (L : Lists) : List ℕ → List Piece → Type 0 where
  done : Chain L [] []
  next : (u a : List ℕ) (k : TokenKind) {ts : List Piece} → advance L false (u ++ a) ≡ record { took = length u; said = record { kind = k; on = false } } → 1 ≤ length u → Chain L a ts
      → Chain L (u ++ a) (record { kind = k; text = u } ∷ ts)

module _ (L : Lists) where
  tokens_next : (u a : List ℕ) (k : TokenKind) → advance L false (u ++ a) ≡ record { took = length u; said = record { kind = k; on = false } } → 1 ≤ length u
      → tokens L false (u ++ a) ≡ record { kind = k; text = u } ∷ tokens L false a
  tokens_next [] a k e h = absurd (omega arith)
  tokens_next (c ∷ u) a k e h = tokens_step L false c (u ++ a) ∙ rw (e, take-append_seam u a, drop-append_seam u a)

  -- a chain has the tokens
  pub chain_tokens : {cs : List ℕ} {ts : List Piece} → Chain L cs ts → tokens L false cs ≡ ts
  chain_tokens done = unfold tokens_after in refl
  chain_tokens (next u a k {ts} e h r) = tokens_next u a k e h ∙ ap (λ (z : List Piece). record { kind = k; text = u } ∷ z) (chain_tokens r)

  more : (c : ℕ) (cs : List ℕ) → Chain L (drop (advance L false (c ∷ cs)).took (c ∷ cs)) (tokens L false (drop (advance L false (c ∷ cs)).took (c ∷ cs)))
      → Chain L (c ∷ cs) (tokens L false (c ∷ cs))
  more c cs r =
      let x : List ℕ = c ∷ cs in
      let n : ℕ = (advance L false x).took in
      let j : take n x ++ drop n x ≡ x = take-append-drop n x in
      let l : length (take n x) ≡ n = length-take-le n x (advance_room L false x) in
      let s : 1 ≤ n = advance_some L false c cs in
      let q : advance L false (take n x ++ drop n x) ≡ record { took = length (take n x); said = record { kind = (advance L false x).said.kind; on = false } } = rw (j, l) (ap (λ (b : Bool). record { took = n; said = record { kind = (advance L false x).said.kind; on = b } }) (off_stays L x)) in
      rw (tokens_step L false c cs, off_stays L x) (subst (λ (z : List ℕ). Chain L z (record { kind = (advance L false x).said.kind; text = take n x } ∷ tokens L false (drop n x))) j (next (take n x) (drop n x) (advance L false x).said.kind q (omega arith) r))

  -- the tokens are a chain
  pub tokens_chain : (cs : List ℕ) → Chain L cs (tokens L false cs)
  tokens_chain cs = by_tokens L (λ (on : Bool) (cs : List ℕ). on ≡ false → Chain L cs (tokens L false cs)) (λ on e. unfold tokens_after in done) turn false cs refl
    where
      turn : (on : Bool) (c : ℕ) (cs : List ℕ)
          → ((advance L on (c ∷ cs)).said.on ≡ false → Chain L (drop (advance L on (c ∷ cs)).took (c ∷ cs)) (tokens L false (drop (advance L on (c ∷ cs)).took (c ∷ cs))))
          → on ≡ false → Chain L (c ∷ cs) (tokens L false (c ∷ cs))
      turn true c cs ih e = let z : ◌≡◌ {A = ℕ} 0 1 = cc in absurd (omega arith)
      turn false c cs ih e = more c cs (ih (off_stays L (c ∷ cs)))
