-- LINES along the records of a text (document 02, W5): the first token is in line 0; a token's line and the LFs of its own bytes give the next token's line; so
-- lines never fall; and each is the number of LFs before the token's start.
use Prim.Native.Nat.{ℕ, ◌+◌, ◌≤◌}
use mathlib.Core.Path.{◌≡◌, refl, subst}
use mathlib.Core.Bool.{Bool}
use mathlib.Core.List.{List, [], ◌∷◌, ◌++◌}
use lib.ListN.{length, take, drop}
use native.Mathlib.Omega.{arith}
use Rattle.text.specs.Chars.{chars, size}
use Rattle.line_feeds.specs.Feeds.{line_feeds, feeds_before}
use Rattle.line_feeds.proofs.Feeds.{line_few, line_on}
use Rattle.token.specs.declared.Token.{Token}
use Rattle.token.specs.Lists.{Lists}
use Rattle.token.specs.Tokens.{Piece, tokens, placed, records}

-- the LFs of a token's own bytes
abbrev pub own_feeds : (s : List ℕ) → Token → ℕ
own_feeds s t = line_feeds (take t.len (drop t.start s))

-- tokens of a text in a row of lines, the first of them in `line`
data Lines (s : List ℕ) : (line : ℕ) → List Token → Type 0 where
  ends : {line : ℕ} → Lines s line []
  next : {line : ℕ} {t : Token} {ts : List Token} → t.line ≡ line → t.line ≡ feeds_before s t.start → Lines s (line + own_feeds s t) ts → Lines s line (t ∷ ts)

placed_lines : (s : List ℕ) (start : ℕ) (ts : List Piece) → Lines s (feeds_before s start) (placed s start ts)
placed_lines s start [] = ends
placed_lines s start (t ∷ ts) = next refl refl (subst (λ (n : ℕ). Lines s n (placed s (start + size t.text) ts)) (line_on s start (size t.text)) (placed_lines s (start + size t.text) ts))

-- the tokens past the first ones
record Past (s : List ℕ) (line : ℕ) (ts : List Token) : Type 0 where
  here : ℕ
  later : line ≤ here
  lines : Lines s here ts

past : {s : List ℕ} {line : ℕ} (us : List Token) {ts : List Token} → Lines s line (us ++ ts) → Past s line ts
past {line = line} [] l = record { here = line; later = omega arith; lines = l }
past {s = s} {line = line} (u ∷ us) (next e f l) =
    let p = past {line = line + own_feeds s u} us l in
    record { here = p.here; later = omega (arith, p.later); lines = p.lines }

first_of : {s : List ℕ} {line : ℕ} {t : Token} {ts : List Token} → Lines s line (t ∷ ts) → t.line ≡ line
first_of (next e f l) = e

line_of : {s : List ℕ} {line : ℕ} {t : Token} {ts : List Token} → Lines s line (t ∷ ts) → t.line ≡ feeds_before s t.start
line_of (next e f l) = f

second_of : {s : List ℕ} {line : ℕ} {t v : Token} {ts : List Token} → Lines s line (t ∷ v ∷ ts) → v.line ≡ t.line + own_feeds s t
second_of (next e f (next g h l)) = omega (arith, e, g)

rest_of : {s : List ℕ} {line : ℕ} {t : Token} {ts : List Token} → Lines s line (t ∷ ts) → Lines s (line + own_feeds s t) ts
rest_of (next e f l) = l

module _ (L : Lists) (on : Bool) (s : List ℕ) where
  lines_at : (us ts : List Token) → records L on s ≡ us ++ ts → Past s 0 ts
  lines_at us ts e = past us (subst (Lines s 0) e (placed_lines s 0 (tokens L on (chars s))))

  -- the first token is in line 0
  pub first_line : (t : Token) (ts : List Token) → records L on s ≡ t ∷ ts → t.line ≡ 0
  first_line t ts e = first_of (subst (Lines s 0) e (placed_lines s 0 (tokens L on (chars s))))

  -- each is in the line of its start
  pub own_line : (us : List Token) (t : Token) (ts : List Token) → records L on s ≡ us ++ (t ∷ ts) → t.line ≡ feeds_before s t.start
  own_line us t ts e = line_of (lines_at us (t ∷ ts) e).lines

  -- and the next one in that line and the LFs of its own bytes
  pub next_line : (us : List Token) (t v : Token) (ts : List Token) → records L on s ≡ us ++ (t ∷ v ∷ ts) → v.line ≡ t.line + own_feeds s t
  next_line us t v ts e = second_of (lines_at us (t ∷ v ∷ ts) e).lines

  -- no later one is in an earlier line
  pub lines_rise : (us : List Token) (t : Token) (vs : List Token) (v : Token) (ts : List Token) → records L on s ≡ us ++ (t ∷ (vs ++ (v ∷ ts))) → t.line ≤ v.line
  lines_rise us t vs v ts e =
      let p = lines_at us (t ∷ (vs ++ (v ∷ ts))) e in
      let q = past vs (rest_of p.lines) in
      omega (arith, first_of p.lines, q.later, first_of q.lines)

  -- a line is no more than the text has bytes: so it fits where a text's length does
  pub line_fits : (us : List Token) (t : Token) (ts : List Token) → records L on s ≡ us ++ (t ∷ ts) → t.line ≤ length s
  line_fits us t ts e = omega (arith, own_line us t ts e, line_few s t.start)
