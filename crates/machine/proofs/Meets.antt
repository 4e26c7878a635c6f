-- The result by tokens is the one-shot key, with the place of the first broken token.
use Prim.Native.Nat.{ℕ, zero, suc, ◌+◌}
use mathlib.Core.Path.{◌≡◌, refl, sym, ap, ◌∙◌}
use mathlib.Core.List.{List, [], ◌∷◌}
use mathlib.Core.Bool.{Bool, true, false, not}
use lib.ListN.{take}
use native.Mathlib.Omega.{arith}
use Rattle.basics.specs.Choice.{pick}
use Rattle.text.specs.Chars.{chars, width, size, encode}
use Rattle.eaters.specs.Eat.{choose}
use Rattle.eaters.specs.Find.{Place, at, nowhere}
use Rattle.token.specs.Lists.{Lists}
use Rattle.token.specs.Advance.{plain, advance}
use Rattle.token.specs.Tokens.{Piece, tokens_after, tokens, placed}
use Rattle.token.specs.Trivia.{is_trivia}
use Rattle.token.specs.Broken.{is_broken}
use Rattle.canon.specs.Keyable.{first_broken}
use Rattle.canon.specs.Meaning.{Item, gap, meant, gap_before}
use Rattle.canon.specs.Key.{written, key_of}
use Rattle.canon.proofs.Keyed.{items}
use Rattle.canon.proofs.Written.{key_encode}
use Rattle.machine.specs.Machine.{Result, ok, bad, put}
use Rattle.machine.specs.OneShot.{key_or, items_of, one_shot, in_bytes, broken_from, of_chars}
use Rattle.machine.proofs.ByTokens.{mark, key_from}

-- items without a gap at their front
abbrev no_first : List Item → List Item
no_first [] = []
no_first (gap ∷ is) = is
no_first (meant k cs ∷ is) = meant k cs ∷ is

-- what is to be written of items; r: a gap was written before them
abbrev keyed : (r : Bool) → List Item → List ℕ
keyed true m = written (no_first m)
keyed false m = written m

keyed_none : (r : Bool) → keyed r [] ≡ []
keyed_none true = refl
keyed_none false = refl

put_keyed : (r : Bool) (t : Piece) (m : List Item) (q : Place) → put t.text (key_or q (written m)) ≡ key_or q (keyed r (meant t.kind t.text ∷ m))
put_keyed true t m nowhere = refl
put_keyed false t m nowhere = refl
put_keyed r t m (at n) = refl

mark_keyed : (r : Bool) (m : List Item) (q : Place) → mark r (key_or q (written (no_first m))) ≡ key_or q (keyed r (gap_before m))
mark_keyed true m (at n) = refl
mark_keyed false m (at n) = refl
mark_keyed true [] nowhere = refl
mark_keyed true (gap ∷ m) nowhere = refl
mark_keyed true (meant k cs ∷ m) nowhere = refl
mark_keyed false [] nowhere = refl
mark_keyed false (gap ∷ m) nowhere = refl
mark_keyed false (meant k cs ∷ m) nowhere = refl

module _ (L : Lists) where
  abbrev verdict : (r : Bool) (p : ℕ) → List Piece → Result
  verdict r p ts = key_or (broken_from p ts) (keyed r (items_of ts))

  meets : (cs : List ℕ) (k p : ℕ) (r : Bool) → key_from L k p r cs ≡ verdict r (p + size (take k cs)) (tokens_after L false k cs)
  unfolding tokens_after advance choose
  meets [] zero p r = ap ok (sym (keyed_none r))
  meets [] (suc k) p r = ap ok (sym (keyed_none r))
  meets (c ∷ cs) (suc k) p r =
      let e : p + width c + size (take k cs) ≡ p + (width c + size (take k cs)) = omega arith in
      meets cs k (p + width c) r ∙ ap (λ (q : ℕ). verdict r q (tokens_after L false k cs)) e
  meets (c ∷ cs) zero p r = go (is_broken (plain L c cs).said) (is_trivia (plain L c cs).said) (λ x. meets cs n (p + width c) x ∙ ap (λ (q : ℕ). verdict x q ts) there)
    where
      n : ℕ
      n = (plain L c cs).took

      ts : List Piece
      ts = tokens_after L false n cs

      t : Piece
      t = record { kind = (plain L c cs).said; text = c ∷ take n cs }

      there : p + width c + size (take n cs) ≡ p + 0 + (width c + size (take n cs))
      there = omega arith

      next : ℕ
      next = p + 0 + (width c + size (take n cs))

      here : p ≡ p + 0
      here = omega arith

      go : (b v : Bool) → ((x : Bool) → key_from L n (p + width c) x cs ≡ verdict x next ts)
          → pick (not b) (pick v (mark r (key_from L n (p + width c) true cs)) (put (c ∷ take n cs) (key_from L n (p + width c) false cs))) (bad p)
          ≡ key_or (pick b (at (p + 0)) (broken_from next ts)) (keyed r (pick v (gap_before (items_of ts)) (meant t.kind t.text ∷ items_of ts)))
      go true v i = ap bad here
      go false true i = ap (mark r) (i true) ∙ mark_keyed r (items_of ts) (broken_from next ts)
      go false false i = ap (put (c ∷ take n cs)) (i false) ∙ put_keyed r t (items_of ts) (broken_from next ts)

  -- ON CHARACTERS
  pub key_is : (cs : List ℕ) → key_from L 0 0 false cs ≡ of_chars (tokens L false cs)
  key_is cs = meets cs 0 0 false ∙ of_chars_is
    where
      of_chars_is : verdict false (0 + 0) (tokens L false cs) ≡ of_chars (tokens L false cs)
      of_chars_is = refl

-- the items are those of canon's laws
pub same_items : (ts : List Piece) → items_of ts ≡ items ts
same_items [] = refl
same_items (t ∷ ts) = ap (λ (is : List Item). pick (is_trivia t.kind) (gap_before is) (meant t.kind t.text ∷ is)) (same_items ts)

-- ON BYTES: the key of the characters, encoded, is the one-shot key
bytes_or : (q : Place) (key : List ℕ) → in_bytes (key_or q key) ≡ key_or q (encode key)
bytes_or nowhere key = refl
bytes_or (at n) key = refl

-- the first broken token is where the records have it
pub same_broken : (s : List ℕ) (p : ℕ) (ts : List Piece) → first_broken (placed s p ts) ≡ broken_from p ts
same_broken s p [] = refl
same_broken s p (t ∷ ts) = ap (pick (is_broken t.kind) (at p)) (same_broken s (p + size t.text) ts)

pub bytes_is : (L : Lists) (s : List ℕ) → in_bytes (of_chars (tokens L false (chars s))) ≡ one_shot L s
bytes_is L s =
    let q : Place = broken_from 0 (tokens L false (chars s)) in
    bytes_or q (written (items_of (tokens L false (chars s)))) ∙ ap (λ (is : List Item). key_or q (encode (written is))) (same_items (tokens L false (chars s))) ∙ ap (key_or q) (sym (key_encode L s)) ∙ ap (λ (z : Place). key_or z (key_of L s)) (sym (same_broken s 0 (tokens L false (chars s))))
