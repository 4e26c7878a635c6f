-- The tokens of a key, on characters: the meaningful tokens as they were, and a newline for each longest run of trivia.
use Prim.Native.Nat.{ℕ, zero, suc, ◌≤◌}
use mathlib.Core.Path.{◌≡◌, refl, sym, ap, ◌∙◌}
use mathlib.Core.List.{List, [], ◌∷◌, ◌++◌}
use mathlib.Core.Bool.{Bool, true, false}
use lib.ListN.{length, get_or}
use native.Mathlib.Omega.{arith}
use Rattle.basics.specs.Choice.{pick}
use Rattle.basics.specs.Tests.{is_in}
use Rattle.classes.specs.Whitespace.{is_whitespace}
use Rattle.eaters.specs.Eat.{Got}
use Rattle.token.specs.declared.TokenKind.{TokenKind}
use Rattle.token.specs.declared.TokenKind.TheVariants.{Whitespace}
use Rattle.token.specs.Names.{'newline'}
use Rattle.token.specs.Lists.{Lists}
use Rattle.token.specs.Advance.{Told, advance}
use Rattle.token.specs.Tokens.{Piece, tokens}
use Rattle.token.specs.Trivia.{is_trivia}
use Rattle.token.specs.Broken.{is_broken}
use Rattle.canon.specs.Meaning.{Item, gap, meant, gap_before}
use Rattle.canon.specs.Key.{written}
use Rattle.canon.specs.Fair.{Fair}
use Rattle.canon.specs.Local as local
use Rattle.canon.specs.Local.{stills, Like, far, ends, same}
use Rattle.canon.proofs.Advance.{advance_local, white_is, trivia_still, newline_is}
use Rattle.canon.proofs.Chain.{Chain, done, next, chain_tokens, tokens_chain}
use Rattle.canon.proofs.Spelling.{Whole, coded}

-- the items of tokens of characters, with their characters in place of bytes
abbrev pub items : List Piece → List Item
items [] = []
items (t ∷ ts) = pick (is_trivia t.kind) (gap_before (items ts)) (meant t.kind t.text ∷ items ts)

-- the tokens that items stand for
abbrev pub back : List Item → List Piece
back [] = []
back (gap ∷ is) = record { kind = Whitespace; text = 'newline' ∷ [] } ∷ back is
back (meant k cs ∷ is) = record { kind = k; text = cs } ∷ back is

like_on : (n : ℕ) (u : List ℕ) {a b : List ℕ} → ((k : ℕ) → Like k a b) → Like n (u ++ a) (u ++ b)
like_on n [] h = h n
like_on zero (c ∷ u) h = far
like_on (suc n) (c ∷ u) h = same (like_on n u h)

-- a gap may stand where trivia stood
like_gap : (n : ℕ) (a : List ℕ) (m : List Item) → is_in stills (get_or a 0 0) ≡ true → Like n a (written (gap_before m))
like_gap n a [] h = local.gap h
like_gap n a (gap ∷ is) h = local.gap h
like_gap n a (meant k cs ∷ is) h = local.gap h

-- items do not begin with whitespace but by a gap
abbrev Fresh : List Item → Type 0
Fresh [] = Unit {0}
Fresh (gap ∷ is) = Unit {0}
Fresh (meant k cs ∷ is) = is_whitespace (get_or (cs ++ written is) 0 0) ≡ false

fresh_gap : (m : List Item) → Fresh (gap_before m)
fresh_gap [] = tt
fresh_gap (gap ∷ is) = tt
fresh_gap (meant k cs ∷ is) = tt

first_of : (u a : List ℕ) → 1 ≤ length u → get_or (u ++ a) 0 0 ≡ get_or u 0 0
first_of [] a h = absurd (omega arith)
first_of (c ∷ u) a h = refl

module _ (L : Lists) where
  -- a token's first character, by its being trivia or not
  still_first : (u a : List ℕ) (k : TokenKind) → advance L false (u ++ a) ≡ record { took = length u; said = record { kind = k; on = false } } → 1 ≤ length u → is_trivia k ≡ true
      → is_in stills (get_or (u ++ a) 0 0) ≡ true
  still_first [] a k e h t = absurd (omega arith)
  still_first (c ∷ u) a k e h t = trivia_still L c (u ++ a) (ap (λ (r : Got Told). is_trivia r.said.kind) e ∙ t)

  plain_first : (u a : List ℕ) (k : TokenKind) → advance L false (u ++ a) ≡ record { took = length u; said = record { kind = k; on = false } } → 1 ≤ length u → is_trivia k ≡ false
      → is_whitespace (get_or u 0 0) ≡ false
  plain_first [] a k e h t = absurd (omega arith)
  plain_first (c ∷ u) a k e h t = go (is_whitespace c) refl
    where
      go : (s : Bool) → is_whitespace c ≡ s → s ≡ false
      go true w = sym (sym t ∙ sym (ap (λ (r : Got Told). is_trivia r.said.kind) e) ∙ white_is L c (u ++ a) w)
      go false w = refl

  -- characters and their key are alike, and the key's items do not begin with whitespace but by a gap
  like_key : {cs : List ℕ} {ts : List Piece} → Chain L cs ts → (n : ℕ) → Like n cs (written (items ts))
  like_key done n = ends
  like_key (next u a k {ts} e h r) n = go (is_trivia k) refl (λ j. like_key r j)
    where
      go : (s : Bool) → is_trivia k ≡ s → ((j : ℕ) → Like j a (written (items ts))) → Like n (u ++ a) (written (pick s (gap_before (items ts)) (meant k u ∷ items ts)))
      go true t i = like_gap n (u ++ a) (items ts) (still_first u a k e h t)
      go false t i = like_on n u i

  fresh : {cs : List ℕ} {ts : List Piece} → Chain L cs ts → Fresh (items ts)
  fresh done = tt
  fresh (next u a k {ts} e h r) = go (is_trivia k) refl
    where
      go : (s : Bool) → is_trivia k ≡ s → Fresh (pick s (gap_before (items ts)) (meant k u ∷ items ts))
      go true t = fresh_gap (items ts)
      go false t = ap is_whitespace (first_of u (written (items ts)) h) ∙ plain_first u a k e h t

  -- a gap before items
  chain_gap : (m : List Item) → Fresh m → Chain L (written m) (back m) → Chain L (written (gap_before m)) (back (gap_before m))
  chain_gap [] f r = next ('newline' ∷ []) [] Whitespace (newline_is L [] (unfold is_whitespace in refl)) (omega arith) r
  chain_gap (gap ∷ is) f r = r
  chain_gap (meant k cs ∷ is) f r = next ('newline' ∷ []) (cs ++ written is) Whitespace (newline_is L (cs ++ written is) f) (omega arith) r

  -- the chain of the written items, where no token is broken
  keyed : Fair L → {cs : List ℕ} {ts : List Piece} → Chain L cs ts → Whole (coded ts) → Chain L (written (items ts)) (back (items ts))
  keyed fair done w = done
  keyed fair (next u a k {ts} e h r) w = go (is_trivia k) refl (keyed fair r w.1)
    where
      go : (s : Bool) → is_trivia k ≡ s → Chain L (written (items ts)) (back (items ts))
          → Chain L (written (pick s (gap_before (items ts)) (meant k u ∷ items ts))) (back (pick s (gap_before (items ts)) (meant k u ∷ items ts)))
      go true t i = chain_gap (items ts) (fresh r) i
      go false t i =
          let n : (advance L false (u ++ a)).took ≤ length u = omega (arith, ap (λ (z : Got Told). z.took) e) in
          let q : is_broken (advance L false (u ++ a)).said.kind ≡ false = ap (λ (z : Got Told). is_broken z.said.kind) e ∙ w.0 in
          next u (written (items ts)) k (advance_local L fair u a (written (items ts)) (like_key r 2) n q h (plain_first u a k e h t) ∙ e) h i

  -- THE TOKENS OF WRITTEN ITEMS are those that the items stand for
  pub written_tokens : Fair L → (cs : List ℕ) → Whole (coded (tokens L false cs)) → tokens L false (written (items (tokens L false cs))) ≡ back (items (tokens L false cs))
  written_tokens fair cs w = chain_tokens L (keyed fair (tokens_chain L cs) w)
