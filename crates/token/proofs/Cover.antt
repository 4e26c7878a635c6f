-- Tokens cover the text without gap or overlap; each takes at least one character; the frontmatter flag.
use Prim.Native.Nat.{ℕ, zero, suc, pred, ◌+◌, ◌≤◌, zero-le, suc-le-suc}
use mathlib.Core.Path.{◌≡◌, refl, ap, ◌∙◌}
use mathlib.Core.List.{List, [], ◌∷◌, ◌++◌}
use mathlib.Core.Logic.{◌⊎◌, inl, inr}
use mathlib.Core.Bool.{Bool, true, false}
use borrow.Author.Tests.{eqb-true, eq-eqb}
use lib.ListN.{length, take, drop, take-append-drop, length-drop}
use native.Mathlib.Omega.{arith}
use Rattle.text.specs.Chars.{chars, size, WellFormed}
use Rattle.text.proofs.Texts.{size_chars, width_some, few_chars}
use Rattle.eaters.specs.Eat.{Got}
use Rattle.token.specs.declared.Token as token
use Rattle.token.specs.Lists.{Lists}
use Rattle.token.specs.Kinds.{kind_number}
use Rattle.token.specs.Advance.{Told, advance}
use Rattle.token.specs.Tokens.{Piece, tokens_after, tokens, placed, records}
use Rattle.token.proofs.Takes.{fits_token}

-- a token takes no more than there is, and, but for Eof, at least one character
pub advance_room : (L : Lists) (on : Bool) (cs : List ℕ) → (advance L on cs).took ≤ length cs
unfolding advance
advance_room L on [] = zero-le
advance_room L on (c ∷ cs) = suc-le-suc ((fits_token L on c).fits cs zero-le)

pub advance_some : (L : Lists) (on : Bool) (c : ℕ) (cs : List ℕ) → 1 ≤ (advance L on (c ∷ cs)).took
unfolding advance
advance_some L on c cs = suc-le-suc zero-le

-- FRONTMATTER: off never turns on
pub off_stays : (L : Lists) (cs : List ℕ) → (advance L false cs).said.on ≡ false
unfolding advance
off_stays L [] = refl
off_stays L (c ∷ cs) = refl

-- on, it stays on through whitespace and at Eof only
pub on_stays : (L : Lists) (cs : List ℕ) → (advance L true cs).said.on ≡ true → (cs ≡ []) ⊎ (kind_number (advance L true cs).said.kind ≡ 2)
unfolding advance
on_stays L [] e = inl refl
on_stays L (c ∷ cs) e = inr (eqb-true _ 2 e)

pub on_white : (L : Lists) (cs : List ℕ) → kind_number (advance L true cs).said.kind ≡ 2 → (advance L true cs).said.on ≡ true
unfolding advance
on_white L [] e = refl
on_white L (c ∷ cs) e = eq-eqb _ 2 e

pub on_end : (L : Lists) → (advance L true []).said.on ≡ true
unfolding advance
on_end L = refl

-- the tokens from a place on
pub tokens_from : (L : Lists) (cs : List ℕ) (on : Bool) (k : ℕ) → tokens_after L on k cs ≡ tokens L on (drop k cs)
unfolding tokens_after
tokens_from L [] on zero = refl
tokens_from L [] on (suc k) = refl
tokens_from L (c ∷ cs) on zero = refl
tokens_from L (c ∷ cs) on (suc k) = tokens_from L cs on k

-- one token, and those past it
pub tokens_step : (L : Lists) (on : Bool) (c : ℕ) (cs : List ℕ)
    → tokens L on (c ∷ cs) ≡ record { kind = (advance L on (c ∷ cs)).said.kind; text = take (advance L on (c ∷ cs)).took (c ∷ cs) } ∷ tokens L (advance L on (c ∷ cs)).said.on (drop (advance L on (c ∷ cs)).took (c ∷ cs))
unfolding tokens_after
tokens_step L on c cs = ap (λ (ts : List Piece). record { kind = r.said.kind; text = take r.took (c ∷ cs) } ∷ ts) (tokens_from L cs r.said.on (pred r.took) ∙ past r.took (advance_some L on c cs))
  where
    r : Got Told
    r = advance L on (c ∷ cs)

    past : (n : ℕ) → 1 ≤ n → tokens L r.said.on (drop (pred n) cs) ≡ tokens L r.said.on (drop n (c ∷ cs))
    past zero h = absurd (omega arith)
    past (suc n) h = refl

-- the characters of tokens
abbrev pub texts : List Piece → List ℕ
texts [] = []
texts (t ∷ ts) = t.text ++ texts ts

-- an induction over the tokens of characters
module _ (L : Lists) (P : Bool → List ℕ → Type 0) (none : (on : Bool) → P on [])
    (more : (on : Bool) (c : ℕ) (cs : List ℕ) → P (advance L on (c ∷ cs)).said.on (drop (advance L on (c ∷ cs)).took (c ∷ cs)) → P on (c ∷ cs))
  where
    by_length : (n : ℕ) (on : Bool) (cs : List ℕ) → length cs ≤ n → P on cs
    by_length zero on [] h = none on
    by_length zero on (c ∷ cs) h = absurd (omega arith)
    by_length (suc n) on [] h = none on
    by_length (suc n) on (c ∷ cs) h =
        more on c cs (by_length n _ _ (omega (arith, length-drop (advance L on (c ∷ cs)).took (c ∷ cs), advance_some L on c cs)))

    pub by_tokens : (on : Bool) (cs : List ℕ) → P on cs
    by_tokens on cs = by_length (length cs) on cs (omega arith)

tokens_none : (L : Lists) (on : Bool) → tokens L on [] ≡ []
unfolding tokens_after
tokens_none L on = refl

-- THE COVER: the characters of the tokens, one after the other, are the text's
pub cover : (L : Lists) (on : Bool) (cs : List ℕ) → texts (tokens L on cs) ≡ cs
cover L = by_tokens L (λ (on : Bool) (cs : List ℕ). texts (tokens L on cs) ≡ cs) (λ on. ap texts (tokens_none L on))
    (λ on c cs ih. ap texts (tokens_step L on c cs) ∙ ap (λ (l : List ℕ). take (advance L on (c ∷ cs)).took (c ∷ cs) ++ l) ih ∙ take-append-drop (advance L on (c ∷ cs)).took (c ∷ cs))

-- no more tokens than characters
pub few_tokens : (L : Lists) (on : Bool) (cs : List ℕ) → length (tokens L on cs) ≤ length cs
few_tokens L = by_tokens L (λ (on : Bool) (cs : List ℕ). length (tokens L on cs) ≤ length cs) (λ on. rw (tokens_none L on) zero-le)
    (λ on c cs ih. rw (tokens_step L on c cs) (omega (arith, ih, length-drop (advance L on (c ∷ cs)).took (c ∷ cs), advance_some L on c cs)))

pub size_append : (a b : List ℕ) → size (a ++ b) ≡ size a + size b
size_append [] b = omega arith
size_append (c ∷ a) b = omega (arith, size_append a b)

-- the bytes of records
abbrev pub total : List token.Token → ℕ
total [] = 0
total (t ∷ ts) = t.len + total ts

total_placed : (s : List ℕ) (start : ℕ) (ts : List Piece) → total (placed s start ts) ≡ size (texts ts)
total_placed s start [] = refl
total_placed s start (t ∷ ts) = omega (arith, total_placed s (start + size t.text) ts, size_append t.text (texts ts))

length_placed : (s : List ℕ) (start : ℕ) (ts : List Piece) → length (placed s start ts) ≡ length ts
length_placed s start [] = refl
length_placed s start (t ∷ ts) = ap suc (length_placed s (start + size t.text) ts)

-- THE RECORDS of a well-formed text have all of its bytes, and n bytes give at most n of them
pub records_total : (L : Lists) (on : Bool) (s : List ℕ) → WellFormed s → total (records L on s) ≡ length s
records_total L on s v = total_placed s 0 (tokens L on (chars s)) ∙ ap size (cover L on (chars s)) ∙ v

pub few_records : (L : Lists) (on : Bool) (s : List ℕ) → length (records L on s) ≤ length s
few_records L on s = omega (arith, length_placed s 0 (tokens L on (chars s)), few_tokens L on (chars s), few_chars (chars s), size_chars s)

-- records stand one after the other: each starts where the one before it ends, the first at 0, and each has at least one byte
pub data Row : (start : ℕ) → List token.Token → Type 0 where
  ends : {start : ℕ} → Row start []
  next : {start : ℕ} {t : token.Token} {ts : List token.Token} → t.start ≡ start → 1 ≤ t.len → Row (start + t.len) ts → Row start (t ∷ ts)

take_some : (n c : ℕ) (cs : List ℕ) → 1 ≤ n → 1 ≤ size (take n (c ∷ cs))
take_some zero c cs h = absurd (omega arith)
take_some (suc n) c cs h = omega (arith, width_some c)

in_row : (L : Lists) (s : List ℕ) (on : Bool) (cs : List ℕ) (start : ℕ) → Row start (placed s start (tokens L on cs))
in_row L s = by_tokens L (λ (on : Bool) (cs : List ℕ). (start : ℕ) → Row start (placed s start (tokens L on cs))) (λ on start. rw (tokens_none L on) ends)
    (λ on c cs ih start. rw (tokens_step L on c cs) (next refl (take_some (advance L on (c ∷ cs)).took c cs (advance_some L on c cs)) (ih _)))

pub records_in_row : (L : Lists) (on : Bool) (s : List ℕ) → Row 0 (records L on s)
records_in_row L on s = in_row L s on (chars s) 0
