-- THE KEY IS CANONICAL (document 01, "The key"), for a list of id start that obeys the rules and texts with no broken token. Nothing is asked of a text's UTF-8:
-- the records of a text, and with them its meaning and its key, are those of the characters before its first ill-formed sequence.
use Prim.Native.Nat.{ℕ}
use mathlib.Core.Path.{◌≡◌, sym, ap, subst, ◌∙◌}
use mathlib.Core.Logic.{◌↔◌}
use mathlib.Core.List.{List}
use mathlib.Core.Bool.{false}
use Rattle.text.specs.Chars.{chars, WellFormed}
use Rattle.text.proofs.Texts.{chars_encode, well_encode}
use Rattle.token.specs.Lists.{Lists}
use Rattle.token.specs.Tokens.{Piece, tokens, records}
use Rattle.canon.specs.Keyable.{Keyable}
use Rattle.canon.specs.Meaning.{meaning}
use Rattle.canon.specs.Key.{written, key_of}
use Rattle.canon.specs.Fair.{Fair}
use Rattle.canon.specs.Spelled.{Said, said_of, spelled}
use Rattle.canon.proofs.Spelling.{coded, said_records, items_said, Whole, whole_said, said_whole}
use Rattle.canon.proofs.Keyed.{items, back, written_tokens}
use Rattle.canon.proofs.Written.{coded_back, meaning_said, meaning_chars, key_encode, key_scalars, spelled_items, whole_spelled}

-- A KEY IS WELL-FORMED UTF-8, whatever the text and the lists
pub key_well : (L : Lists) (s : List ℕ) → WellFormed (key_of L s)
key_well L s = rw (key_encode L s) (well_encode (key_scalars L s))

-- its characters
pub key_chars : (L : Lists) (s : List ℕ) → chars (key_of L s) ≡ written (items (tokens L false (chars s)))
key_chars L s = ap chars (key_encode L s) ∙ chars_encode (key_scalars L s)

-- THE TOKENS OF A KEY are the meaningful tokens of the text, each with its kind and its bytes, and one newline of whitespace for each longest run
-- of trivia
pub key_tokens : (L : Lists) → Fair L → (s : List ℕ) → Keyable L s → said_of (key_of L s) (records L false (key_of L s)) ≡ spelled (meaning L s)
key_tokens L fair s ks =
    let cs : List ℕ = chars s in
    let ts : List Piece = tokens L false cs in
    let w : Whole (coded ts) = subst (λ (l : List Said). Whole l) (said_records L false s) (whole_said s (records L false s) ks) in
    let e : tokens L false (chars (key_of L s)) ≡ back (items ts) = ap (tokens L false) (key_chars L s) ∙ written_tokens L fair cs w in
    said_records L false (key_of L s) ∙ ap coded e ∙ coded_back (items ts) ∙ sym (ap spelled (meaning_chars L s))

-- A KEY MEANS WHAT ITS TEXT MEANS
pub key_meaning : (L : Lists) → Fair L → (s : List ℕ) → Keyable L s → meaning L (key_of L s) ≡ meaning L s
key_meaning L fair s ks =
    let m : meaning L s ≡ items_said (said_of s (records L false s)) = meaning_said L s in
    meaning_said L (key_of L s) ∙ ap items_said (key_tokens L fair s ks ∙ ap spelled m) ∙ spelled_items (said_of s (records L false s)) ∙ sym m

-- A KEY IS ITS OWN KEY
pub key_again : (L : Lists) → Fair L → (s : List ℕ) → Keyable L s → key_of L (key_of L s) ≡ key_of L s
key_again L fair s ks = ap written (key_meaning L fair s ks)

-- and it has one: none of its tokens is broken
pub again_keyable : (L : Lists) → Fair L → (s : List ℕ) → Keyable L s → Keyable L (key_of L s)
again_keyable L fair s ks =
    let said : List Said = said_of s (records L false s) in
    let e : said_of (key_of L s) (records L false (key_of L s)) ≡ spelled (items_said said) = key_tokens L fair s ks ∙ ap spelled (meaning_said L s) in
    said_whole (key_of L s) (records L false (key_of L s)) (subst (λ (l : List Said). Whole l) (sym e) (whole_spelled said (whole_said s (records L false s) ks)))

-- CANONICAL: two texts have the same key exactly when they have the same meaning
pub canonical : (L : Lists) → Fair L → (s t : List ℕ) → Keyable L s → Keyable L t → (key_of L s ≡ key_of L t) ↔ (meaning L s ≡ meaning L t)
canonical L fair s t ks kt = ((λ e. sym (key_meaning L fair s ks) ∙ ap (meaning L) e ∙ key_meaning L fair t kt), (λ e. ap written e))
