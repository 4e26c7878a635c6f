-- From bytes to characters: what the records of a text say is what its tokens of characters say, encoded.
use Prim.Native.Nat.{ℕ, ◌+◌}
use mathlib.Core.Path.{◌≡◌, refl, sym, ap, subst, ◌∙◌}
use mathlib.Core.List.{List, [], ◌∷◌, ◌++◌, append_assoc}
use mathlib.Core.Bool.{Bool, true, false}
use lib.ListN.{length, take, drop, length-append}
use lib.Seq.{take-append_seam, drop-append_seam}
use native.Mathlib.Omega.{arith}
use Rattle.basics.specs.Choice.{pick}
use Rattle.text.specs.Chars.{chars, size, encode_one, encode}
use Rattle.text.proofs.Texts.{front, length_encode}
use Rattle.eaters.specs.Find.{at, nowhere}
use Rattle.token.specs.declared.Token.{Token}
use Rattle.token.specs.Lists.{Lists}
use Rattle.token.specs.Tokens.{Piece, tokens, placed, records}
use Rattle.token.specs.Trivia.{is_trivia}
use Rattle.token.proofs.Cover.{texts, cover}
use Rattle.token.specs.Broken.{is_broken}
use Rattle.canon.specs.Keyable.{first_broken}
use Rattle.canon.specs.Meaning.{Item, meant, gap_before, bytes_of, items_of}
use Rattle.canon.specs.Spelled.{Said, said_of}

-- the encoding of one list of characters after another
pub encode_append : (u a : List ℕ) → encode (u ++ a) ≡ encode u ++ encode a
unfolding encode
encode_append [] a = refl
encode_append (c ∷ u) a = ap (λ (l : List ℕ). encode_one c ++ l) (encode_append u a) ∙ sym (append_assoc (encode_one c) (encode u) (encode a))

-- what tokens of characters say in bytes
abbrev pub coded : List Piece → List Said
coded [] = []
coded (t ∷ ts) = record { kind = t.kind; bytes = encode t.text } ∷ coded ts

-- tokens in their places: after the bytes p, and before any others. Their lines, those of any text z, say nothing
said_placed : (z : List ℕ) (ts : List Piece) (p r : List ℕ) → said_of (p ++ (encode (texts ts) ++ r)) (placed z (length p) ts) ≡ coded ts
said_placed z [] p r = refl
said_placed z (t ∷ ts) p r =
    let u : List ℕ = t.text in
    let n : size u ≡ length (encode u) = sym (length_encode u) in
    let j : encode (u ++ texts ts) ++ r ≡ encode u ++ (encode (texts ts) ++ r) = ap (λ (l : List ℕ). l ++ r) (encode_append u (texts ts)) ∙ append_assoc (encode u) (encode (texts ts)) r in
    let k : p ++ (encode u ++ (encode (texts ts) ++ r)) ≡ (p ++ encode u) ++ (encode (texts ts) ++ r) = sym (append_assoc p (encode u) (encode (texts ts) ++ r)) in
    let m : length p + length (encode u) ≡ length (p ++ encode u) = sym (length-append p (encode u)) in
    let here : take (length (encode u)) (drop (length p) (p ++ (encode u ++ (encode (texts ts) ++ r)))) ≡ encode u =
    ap (take (length (encode u))) (drop-append_seam p (encode u ++ (encode (texts ts) ++ r))) ∙ take-append_seam (encode u) (encode (texts ts) ++ r) in
    let there : said_of (p ++ (encode u ++ (encode (texts ts) ++ r))) (placed z (length p + length (encode u)) ts) ≡ coded ts =
    rw (k, m) (said_placed z ts (p ++ encode u) r) in
    let cut : said_of (p ++ (encode (u ++ texts ts) ++ r)) (placed z (length p + length (encode u)) ts) ≡ coded ts =
    ap (λ (l : List ℕ). said_of (p ++ l) (placed z (length p + length (encode u)) ts)) j ∙ there in
    rw (j, n, here) (ap (λ (l : List Said). record { kind = t.kind; bytes = encode u } ∷ l) cut)

-- THE RECORDS OF A TEXT say what its tokens say, encoded: also where the text is ill-formed after them
pub said_records : (L : Lists) (on : Bool) (s : List ℕ) → said_of s (records L on s) ≡ coded (tokens L on (chars s))
said_records L on s =
    let ts : List Piece = tokens L on (chars s) in
    let e : encode (texts ts) ++ drop (size (chars s)) s ≡ s = ap (λ (l : List ℕ). encode l ++ drop (size (chars s)) s) (cover L on (chars s)) ∙ front s in
    subst (λ (z : List ℕ). said_of z (placed s 0 ts) ≡ coded ts) e (said_placed s ts [] (drop (size (chars s)) s))

-- the items of what tokens say
abbrev pub items_said : List Said → List Item
items_said [] = []
items_said (t ∷ ts) = pick (is_trivia t.kind) (gap_before (items_said ts)) (meant t.kind t.bytes ∷ items_said ts)

pub items_said_lem : (s : List ℕ) (ts : List Token) → items_of s ts ≡ items_said (said_of s ts)
items_said_lem s [] = refl
items_said_lem s (t ∷ ts) = ap (λ (is : List Item). pick (is_trivia t.kind) (gap_before is) (meant t.kind (bytes_of s t) ∷ is)) (items_said_lem s ts)

-- no token is broken
abbrev pub Whole : List Said → Type 0
Whole [] = Unit {0}
Whole (t ∷ ts) = (is_broken t.kind ≡ false) × Whole ts

pub whole_said : (s : List ℕ) (ts : List Token) → first_broken ts ≡ nowhere → Whole (said_of s ts)
whole_said s [] e = tt
whole_said s (t ∷ ts) e = go (is_broken t.kind) refl e (whole_said s ts)
  where
    go : (b : Bool) → is_broken t.kind ≡ b → pick b (at t.start) (first_broken ts) ≡ nowhere → (first_broken ts ≡ nowhere → Whole (said_of s ts)) → Whole (said_of s (t ∷ ts))
    go true k e ih = let z : ◌≡◌ {A = ℕ} 0 1 = cc in absurd (omega arith)
    go false k e ih = (k, ih e)

pub said_whole : (s : List ℕ) (ts : List Token) → Whole (said_of s ts) → first_broken ts ≡ nowhere
said_whole s [] w = refl
said_whole s (t ∷ ts) w = rw w.0 (said_whole s ts w.1)
