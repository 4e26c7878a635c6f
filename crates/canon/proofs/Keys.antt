-- Keys of small texts, with empty lists, computed by the definitions from the texts' bytes (⏎ is a newline).
use Prim.Native.Nat.{ℕ}
use mathlib.Core.Path.{◌≡◌, refl}
use mathlib.Core.List.{List, [], ◌∷◌}
use native.Mathlib.Omega.{arith}
use Rattle.text.specs.Utf8.{byte, two, three, four, lead, decoded}
use Rattle.text.specs.Chars.{chars_after, width}
use Rattle.ranges.specs.Search.{in_pairs}
use Rattle.classes.specs.Whitespace.{is_whitespace}
use Rattle.classes.specs.Identifiers.{letter, id_start, id_continue}
use Rattle.classes.specs.Emoji.{emoji_char}
use Rattle.eaters.specs.Eat.{give, eat, eat_any, while, ◌>>=◌, texted, choose}
use Rattle.eaters.specs.Look.{if_at, if_two}
use Rattle.eaters.specs.Scan.{scan, first_with}
use Rattle.eaters.specs.Find.{Place, at, nowhere}
use Rattle.token.specs.Lists.{none}
use Rattle.token.specs.Advance.{advance}
use Rattle.token.specs.Tokens.{tokens_after}
use Rattle.canon.specs.Keyable.{broken_at}
use Rattle.canon.specs.Key.{key_of}

-- a text and its key
pub record Line : Type 0 where
  pub text : List ℕ
  pub key : List ℕ

abbrev line : List ℕ → List ℕ → Line
line s k = record { text = s; key = k }

-- every line holds
abbrev Hold : List Line → Type 0
Hold [] = Unit {0}
Hold (l ∷ ls) = (key_of none l.text ≡ l.key) × Hold ls

-- Document 01's example; an empty text; trivia between tokens and at the ends; a run of trivia of any make; doc comments, which stay byte for byte, a
-- carriage return with them; comments that are none; a string with what looks like trivia inside; an ill-formed text, of which only what
-- stands before the ill-formed sequence counts
abbrev pub lines : List Line
lines =
    line (47 ∷ 42 ∷ 32 ∷ 97 ∷ 32 ∷ 42 ∷ 47 ∷ 120 ∷ 32 ∷ 61 ∷ 32 ∷ 49 ∷ 59 ∷ 32 ∷ 47 ∷ 47 ∷ 32 ∷ 98 ∷ 10 ∷ []) (10 ∷ 120 ∷ 10 ∷ 61 ∷ 10 ∷ 49 ∷ 59 ∷ 10 ∷ [])
    ∷ line ([]) ([])
    ∷ line (61 ∷ 32 ∷ 61 ∷ []) (61 ∷ 10 ∷ 61 ∷ [])
    ∷ line (61 ∷ 61 ∷ []) (61 ∷ 61 ∷ [])
    ∷ line (120 ∷ 32 ∷ []) (120 ∷ 10 ∷ [])
    ∷ line (32 ∷ 120 ∷ []) (10 ∷ 120 ∷ [])
    ∷ line (120 ∷ []) (120 ∷ [])
    ∷ line (32 ∷ 47 ∷ 42 ∷ 32 ∷ 97 ∷ 32 ∷ 42 ∷ 47 ∷ 10 ∷ 47 ∷ 47 ∷ 32 ∷ 98 ∷ 10 ∷ 10 ∷ 120 ∷ []) (10 ∷ 120 ∷ [])
    ∷ line (32 ∷ 47 ∷ 47 ∷ 32 ∷ 97 ∷ []) (10 ∷ [])
    ∷ line (47 ∷ 47 ∷ 47 ∷ 32 ∷ 100 ∷ 10 ∷ 120 ∷ []) (47 ∷ 47 ∷ 47 ∷ 32 ∷ 100 ∷ 10 ∷ 120 ∷ [])
    ∷ line (47 ∷ 47 ∷ 33 ∷ 32 ∷ 100 ∷ 10 ∷ 120 ∷ []) (47 ∷ 47 ∷ 33 ∷ 32 ∷ 100 ∷ 10 ∷ 120 ∷ [])
    ∷ line (47 ∷ 42 ∷ 42 ∷ 32 ∷ 100 ∷ 32 ∷ 42 ∷ 47 ∷ 120 ∷ []) (47 ∷ 42 ∷ 42 ∷ 32 ∷ 100 ∷ 32 ∷ 42 ∷ 47 ∷ 120 ∷ [])
    ∷ line (47 ∷ 42 ∷ 33 ∷ 32 ∷ 100 ∷ 32 ∷ 42 ∷ 47 ∷ 120 ∷ []) (47 ∷ 42 ∷ 33 ∷ 32 ∷ 100 ∷ 32 ∷ 42 ∷ 47 ∷ 120 ∷ [])
    ∷ line (47 ∷ 47 ∷ 47 ∷ 32 ∷ 100 ∷ 13 ∷ 10 ∷ 120 ∷ []) (47 ∷ 47 ∷ 47 ∷ 32 ∷ 100 ∷ 13 ∷ 10 ∷ 120 ∷ [])
    ∷ line (47 ∷ 47 ∷ 47 ∷ 47 ∷ 10 ∷ 120 ∷ []) (10 ∷ 120 ∷ [])
    ∷ line (47 ∷ 42 ∷ 42 ∷ 42 ∷ 47 ∷ 120 ∷ []) (10 ∷ 120 ∷ [])
    ∷ line (34 ∷ 195 ∷ 169 ∷ 32 ∷ 47 ∷ 42 ∷ 32 ∷ 42 ∷ 47 ∷ 34 ∷ 194 ∷ 133 ∷ 120 ∷ []) (34 ∷ 195 ∷ 169 ∷ 32 ∷ 47 ∷ 42 ∷ 32 ∷ 42 ∷ 47 ∷ 34 ∷ 10 ∷ 120 ∷ [])
    ∷ line (120 ∷ 32 ∷ 255 ∷ 32 ∷ 121 ∷ []) (120 ∷ 10 ∷ [])
    ∷ []

pub lines_hold : Hold lines
unfolding byte two three four lead decoded chars_after width in_pairs is_whitespace letter id_start id_continue emoji_char give eat eat_any while ◌>>=◌ texted choose if_at if_two scan first_with advance tokens_after
lines_hold = (refl, (refl, (refl, (refl, (refl, (refl, (refl, (refl, (refl, (refl, (refl, (refl, (refl, (refl, (refl, (refl, (refl, (refl, tt))))))))))))))))))

-- two texts
pub record Two : Type 0 where
  pub one : List ℕ
  pub other : List ℕ

abbrev pair : List ℕ → List ℕ → Two
pair s t = record { one = s; other = t }

-- the texts of each pair have different keys
abbrev Apart : List Two → Type 0
Apart [] = Unit {0}
Apart (p ∷ ps) = (key_of none p.one ≡ key_of none p.other → ⊥) × Apart ps

-- `= =` and `==`; trivia at an end; each make of doc comment, without it and with other trivia for it; a carriage return in one
abbrev pub pairs : List Two
pairs =
    pair (61 ∷ 32 ∷ 61 ∷ []) (61 ∷ 61 ∷ [])
    ∷ pair (120 ∷ 32 ∷ []) (120 ∷ [])
    ∷ pair (32 ∷ 120 ∷ []) (120 ∷ [])
    ∷ pair (47 ∷ 47 ∷ 47 ∷ 32 ∷ 100 ∷ 10 ∷ 120 ∷ []) (120 ∷ [])
    ∷ pair (47 ∷ 47 ∷ 47 ∷ 32 ∷ 100 ∷ 10 ∷ 120 ∷ []) (10 ∷ 120 ∷ [])
    ∷ pair (47 ∷ 47 ∷ 33 ∷ 32 ∷ 100 ∷ 10 ∷ 120 ∷ []) (120 ∷ [])
    ∷ pair (47 ∷ 47 ∷ 33 ∷ 32 ∷ 100 ∷ 10 ∷ 120 ∷ []) (10 ∷ 120 ∷ [])
    ∷ pair (47 ∷ 42 ∷ 42 ∷ 32 ∷ 100 ∷ 32 ∷ 42 ∷ 47 ∷ 120 ∷ []) (120 ∷ [])
    ∷ pair (47 ∷ 42 ∷ 42 ∷ 32 ∷ 100 ∷ 32 ∷ 42 ∷ 47 ∷ 120 ∷ []) (10 ∷ 120 ∷ [])
    ∷ pair (47 ∷ 42 ∷ 33 ∷ 32 ∷ 100 ∷ 32 ∷ 42 ∷ 47 ∷ 120 ∷ []) (120 ∷ [])
    ∷ pair (47 ∷ 42 ∷ 33 ∷ 32 ∷ 100 ∷ 32 ∷ 42 ∷ 47 ∷ 120 ∷ []) (10 ∷ 120 ∷ [])
    ∷ pair (47 ∷ 47 ∷ 47 ∷ 32 ∷ 100 ∷ 13 ∷ 10 ∷ 120 ∷ []) (47 ∷ 47 ∷ 47 ∷ 32 ∷ 100 ∷ 10 ∷ 120 ∷ [])
    ∷ []

pub pairs_apart : Apart pairs
unfolding byte two three four lead decoded chars_after width in_pairs is_whitespace letter id_start id_continue emoji_char give eat eat_any while ◌>>=◌ texted choose if_at if_two scan first_with advance tokens_after
pairs_apart = ((λ e. let z : ◌≡◌ {A = ℕ} 0 1 = cc in omega arith), ((λ e. let z : ◌≡◌ {A = ℕ} 0 1 = cc in omega arith), ((λ e. let z : ◌≡◌ {A = ℕ} 0 1 = cc in omega arith), ((λ e. let z : ◌≡◌ {A = ℕ} 0 1 = cc in omega arith), ((λ e. let z : ◌≡◌ {A = ℕ} 0 1 = cc in omega arith), ((λ e. let z : ◌≡◌ {A = ℕ} 0 1 = cc in omega arith), ((λ e. let z : ◌≡◌ {A = ℕ} 0 1 = cc in omega arith), ((λ e. let z : ◌≡◌ {A = ℕ} 0 1 = cc in omega arith), ((λ e. let z : ◌≡◌ {A = ℕ} 0 1 = cc in omega arith), ((λ e. let z : ◌≡◌ {A = ℕ} 0 1 = cc in omega arith), ((λ e. let z : ◌≡◌ {A = ℕ} 0 1 = cc in omega arith), ((λ e. let z : ◌≡◌ {A = ℕ} 0 1 = cc in omega arith), tt))))))))))))

-- where the first broken token of a text starts
pub record Fault : Type 0 where
  pub text : List ℕ
  pub place : Place

abbrev fault : List ℕ → Place → Fault
fault s p = record { text = s; place = p }

abbrev Found : List Fault → Type 0
Found [] = Unit {0}
Found (f ∷ fs) = (broken_at none f.text ≡ f.place) × Found fs

abbrev pub faults : List Fault
faults =
    fault (120 ∷ []) nowhere
    ∷ fault (120 ∷ 32 ∷ 34 ∷ 97 ∷ []) (at 2)
    ∷ fault (47 ∷ 42 ∷ 32 ∷ 42 ∷ 47 ∷ 32 ∷ 47 ∷ 42 ∷ []) (at 6)
    ∷ fault (114 ∷ 35 ∷ 120 ∷ 32 ∷ 39 ∷ 39 ∷ 39 ∷ []) nowhere
    ∷ fault (114 ∷ 35 ∷ 35 ∷ 126 ∷ 120 ∷ []) (at 0)
    ∷ fault (98 ∷ 39 ∷ 97 ∷ 47 ∷ 98 ∷ 39 ∷ []) (at 0)
    ∷ fault (39 ∷ 47 ∷ 42 ∷ 42 ∷ 47 ∷ 39 ∷ []) (at 0)
    ∷ fault (47 ∷ 42 ∷ 47 ∷ []) (at 0)
    ∷ fault (195 ∷ 169 ∷ 32 ∷ 47 ∷ 42 ∷ 42 ∷ 32 ∷ 100 ∷ []) (at 3)
    ∷ []

pub faults_found : Found faults
unfolding byte two three four lead decoded chars_after width in_pairs is_whitespace letter id_start id_continue emoji_char give eat eat_any while ◌>>=◌ texted choose if_at if_two scan first_with advance tokens_after
faults_found = (refl, (refl, (refl, (refl, (refl, (refl, (refl, (refl, (refl, tt)))))))))
