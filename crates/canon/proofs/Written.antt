-- A key is the encoding of the key of its characters; and what a key's tokens are to say has the meaning that it was made from.
use Prim.Native.Nat.{ℕ}
use mathlib.Core.Path.{◌≡◌, refl, sym, ap, subst, ◌∙◌}
use mathlib.Core.List.{List, [], ◌∷◌, ◌++◌}
use mathlib.Core.Logic.{inl}
use mathlib.Core.Bool.{Bool, true, false}
use native.Mathlib.Omega.{arith}
use Rattle.basics.specs.Choice.{pick}
use Rattle.text.specs.Chars.{chars, encode_one, encode, Scalars, nil, cons}
use Rattle.text.proofs.Texts.{scalars}
use Rattle.token.specs.declared.TokenKind.TheVariants.{Whitespace}
use Rattle.token.specs.Names.{'newline'}
use Rattle.token.specs.Lists.{Lists}
use Rattle.token.specs.Tokens.{Piece, tokens, records}
use Rattle.token.specs.Trivia.{is_trivia}
use Rattle.token.proofs.Cover.{texts, cover}
use Rattle.canon.specs.Meaning.{Item, gap, meant, gap_before, meaning}
use Rattle.canon.specs.Key.{written, key_of}
use Rattle.canon.specs.Spelled.{Said, said_of, spelled}
use Rattle.canon.proofs.Spelling.{encode_append, coded, said_records, items_said, items_said_lem, Whole}
use Rattle.canon.proofs.Keyed.{items, back}

-- items of characters, encoded
abbrev pub in_bytes : List Item → List Item
in_bytes [] = []
in_bytes (gap ∷ is) = gap ∷ in_bytes is
in_bytes (meant k cs ∷ is) = meant k (encode cs) ∷ in_bytes is

newline_encode : (cs : List ℕ) → encode ('newline' ∷ cs) ≡ 'newline' ∷ encode cs
unfolding encode encode_one
newline_encode cs = refl

written_encode : (m : List Item) → written (in_bytes m) ≡ encode (written m)
written_encode [] = unfold encode in refl
written_encode (gap ∷ is) = ap (λ (l : List ℕ). 'newline' ∷ l) (written_encode is) ∙ sym (newline_encode (written is))
written_encode (meant k cs ∷ is) = ap (λ (l : List ℕ). encode cs ++ l) (written_encode is) ∙ sym (encode_append cs (written is))

bytes_gap : (m : List Item) → in_bytes (gap_before m) ≡ gap_before (in_bytes m)
bytes_gap [] = refl
bytes_gap (gap ∷ is) = refl
bytes_gap (meant k cs ∷ is) = refl

bytes_items : (ts : List Piece) → items_said (coded ts) ≡ in_bytes (items ts)
bytes_items [] = refl
bytes_items (t ∷ ts) = go (is_trivia t.kind) (bytes_items ts)
  where
    go : (s : Bool) → items_said (coded ts) ≡ in_bytes (items ts)
        → pick s (gap_before (items_said (coded ts))) (meant t.kind (encode t.text) ∷ items_said (coded ts)) ≡ in_bytes (pick s (gap_before (items ts)) (meant t.kind t.text ∷ items ts))
    go true i = ap gap_before i ∙ sym (bytes_gap (items ts))
    go false i = ap (λ (is : List Item). meant t.kind (encode t.text) ∷ is) i

pub coded_back : (m : List Item) → coded (back m) ≡ spelled (in_bytes m)
unfolding encode encode_one
coded_back [] = refl
coded_back (gap ∷ is) = ap (λ (l : List Said). record { kind = Whitespace; bytes = 'newline' ∷ [] } ∷ l) (coded_back is)
coded_back (meant k cs ∷ is) = ap (λ (l : List Said). record { kind = k; bytes = encode cs } ∷ l) (coded_back is)

-- THE MEANING of a text by what its records say, and by its characters
pub meaning_said : (L : Lists) (s : List ℕ) → meaning L s ≡ items_said (said_of s (records L false s))
meaning_said L s = items_said_lem s (records L false s)

pub meaning_chars : (L : Lists) (s : List ℕ) → meaning L s ≡ in_bytes (items (tokens L false (chars s)))
meaning_chars L s = meaning_said L s ∙ ap items_said (said_records L false s) ∙ bytes_items (tokens L false (chars s))

-- THE KEY of a text is the key of its characters, encoded
pub key_encode : (L : Lists) (s : List ℕ) → key_of L s ≡ encode (written (items (tokens L false (chars s))))
key_encode L s = ap written (meaning_chars L s) ∙ written_encode (items (tokens L false (chars s)))

-- THE CHARACTERS OF A KEY ARE ITS TEXT'S AND NEWLINES: what holds of a text's characters, of each part of them, of two parts joined and of a newline put before,
-- holds of its key's
module _ (P : List ℕ → Type 0) (none : P []) (front : (u a : List ℕ) → P (u ++ a) → P u) (rest : (u a : List ℕ) → P (u ++ a) → P a) (join : (u a : List ℕ) → P u → P a → P (u ++ a))
    (newline : (cs : List ℕ) → P cs → P ('newline' ∷ cs))
  where
    gap_kept : (m : List Item) → P (written m) → P (written (gap_before m))
    gap_kept [] h = newline [] h
    gap_kept (gap ∷ is) h = h
    gap_kept (meant k cs ∷ is) h = newline (cs ++ written is) h

    items_kept : (ts : List Piece) → P (texts ts) → P (written (items ts))
    items_kept [] h = none
    items_kept (t ∷ ts) h = go (is_trivia t.kind) (items_kept ts (rest t.text (texts ts) h))
      where
        go : (s : Bool) → P (written (items ts)) → P (written (pick s (gap_before (items ts)) (meant t.kind t.text ∷ items ts)))
        go true i = gap_kept (items ts) i
        go false i = join t.text (written (items ts)) (front t.text (texts ts) h) i

    pub kept_in_key : (L : Lists) (s : List ℕ) → P (chars s) → P (written (items (tokens L false (chars s))))
    kept_in_key L s h = items_kept (tokens L false (chars s)) (subst P (sym (cover L false (chars s))) h)

-- which are scalar values
front : (u a : List ℕ) → Scalars (u ++ a) → Scalars u
front [] a h = nil
front (c ∷ u) a (cons p h) = cons p (front u a h)

rest : (u a : List ℕ) → Scalars (u ++ a) → Scalars a
rest [] a h = h
rest (c ∷ u) a (cons p h) = rest u a h

join : (u a : List ℕ) → Scalars u → Scalars a → Scalars (u ++ a)
join [] a h k = k
join (c ∷ u) a (cons p h) k = cons p (join u a h k)

newline_scalar : (cs : List ℕ) → Scalars cs → Scalars ('newline' ∷ cs)
newline_scalar cs h = cons {c = 'newline'} (inl (omega arith)) h

pub key_scalars : (L : Lists) (s : List ℕ) → Scalars (written (items (tokens L false (chars s))))
key_scalars L s = kept_in_key (λ (l : List ℕ). Scalars l) nil front rest join newline_scalar L s (scalars s)

-- what items are spelled as has those items again
spelled_gap : (m : List Item) → items_said (spelled m) ≡ m → items_said (spelled (gap_before m)) ≡ gap_before m
spelled_gap [] e = refl
spelled_gap (gap ∷ is) e = e
spelled_gap (meant k bytes ∷ is) e = ap gap_before e

pub spelled_items : (ts : List Said) → items_said (spelled (items_said ts)) ≡ items_said ts
spelled_items [] = refl
spelled_items (t ∷ ts) = go (is_trivia t.kind) refl (spelled_items ts)
  where
    go : (s : Bool) → is_trivia t.kind ≡ s → items_said (spelled (items_said ts)) ≡ items_said ts
        → items_said (spelled (pick s (gap_before (items_said ts)) (meant t.kind t.bytes ∷ items_said ts))) ≡ pick s (gap_before (items_said ts)) (meant t.kind t.bytes ∷ items_said ts)
    go true k i = spelled_gap (items_said ts) i
    go false k i = rw k (ap (λ (is : List Item). meant t.kind t.bytes ∷ is) i)

-- and none of it is broken, where nothing was
whole_gap : (m : List Item) → Whole (spelled m) → Whole (spelled (gap_before m))
whole_gap [] w = (refl, w)
whole_gap (gap ∷ is) w = w
whole_gap (meant k bytes ∷ is) w = (refl, w)

pub whole_spelled : (ts : List Said) → Whole ts → Whole (spelled (items_said ts))
whole_spelled [] w = tt
whole_spelled (t ∷ ts) w = go (is_trivia t.kind) (whole_spelled ts w.1)
  where
    go : (s : Bool) → Whole (spelled (items_said ts)) → Whole (spelled (pick s (gap_before (items_said ts)) (meant t.kind t.bytes ∷ items_said ts)))
    go true i = whole_gap (items_said ts) i
    go false i = (w.0, i)
