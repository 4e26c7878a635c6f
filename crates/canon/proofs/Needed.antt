-- What the laws of Canon ask for is needed: with it left out they are false, by texts whose meanings and keys are computed (⏎ is a newline).
use Prim.Native.Nat.{ℕ}
use mathlib.Core.Path.{◌≡◌, refl}
use mathlib.Core.List.{List, [], ◌∷◌}
use mathlib.Core.Bool.{true, false}
use native.Mathlib.Omega.{arith}
use Rattle.text.specs.Utf8.{byte, two, three, four, lead, decoded}
use Rattle.text.specs.Chars.{chars_after, width}
use Rattle.ranges.specs.Search.{in_pairs}
use Rattle.classes.specs.Whitespace.{is_whitespace}
use Rattle.classes.specs.Identifiers.{letter, id_start, id_continue}
use Rattle.classes.specs.Emoji.{emoji_char}
use Rattle.eaters.specs.Eat.{give, eat, eat_any, while, ◌>>=◌, texted, choose}
use Rattle.eaters.specs.Look.{if_at, if_two}
use Rattle.eaters.specs.Scan.{scan, first_with}
use Rattle.eaters.specs.Find.{at}
use Rattle.token.specs.declared.Base.TheVariants.{Decimal}
use Rattle.token.specs.declared.LiteralKind.TheVariants.{Int, Float, Char}
use Rattle.token.specs.declared.TokenKind.TheVariants.{Literal, Dot}
use Rattle.token.specs.Lists.{Lists, none}
use Rattle.token.specs.Advance.{advance}
use Rattle.token.specs.Tokens.{tokens_after}
use Rattle.canon.specs.Keyable.{broken_at, Keyable}
use Rattle.canon.specs.Meaning.{gap, meant, meaning}
use Rattle.canon.specs.Key.{key_of}

-- two texts have the same key and different meanings
pub record Clash (L : Lists) (s t : List ℕ) : Type 0 where
  pub key : key_of L s ≡ key_of L t
  pub meanings : meaning L s ≡ meaning L t → ⊥

-- WITHOUT KEYABLE, the lists empty. `'/**/'` is two quotes that do not end with a comment between them, and `'⏎'` is one character.
abbrev pub quotes : List ℕ
quotes = 39 ∷ 47 ∷ 42 ∷ 42 ∷ 47 ∷ 39 ∷ []

abbrev pub character : List ℕ
character = 39 ∷ 10 ∷ 39 ∷ []

pub quotes_mean : meaning none quotes ≡ meant (Literal (Char false) 1) (39 ∷ []) ∷ gap ∷ meant (Literal (Char false) 1) (39 ∷ []) ∷ []
unfolding byte two three four lead decoded chars_after width in_pairs is_whitespace letter id_start id_continue emoji_char give eat eat_any while ◌>>=◌ texted choose if_at if_two scan first_with advance tokens_after
quotes_mean = refl

pub character_means : meaning none character ≡ meant (Literal (Char true) 3) character ∷ []
unfolding byte two three four lead decoded chars_after width in_pairs is_whitespace letter id_start id_continue emoji_char give eat eat_any while ◌>>=◌ texted choose if_at if_two scan first_with advance tokens_after
character_means = refl

pub quotes_clash : Clash none quotes character
unfolding byte two three four lead decoded chars_after width in_pairs is_whitespace letter id_start id_continue emoji_char give eat eat_any while ◌>>=◌ texted choose if_at if_two scan first_with advance tokens_after
quotes_clash = record { key = refl; meanings = λ e. let z : ◌≡◌ {A = ℕ} 0 1 = cc in omega arith }

pub quotes_broken : broken_at none quotes ≡ at 0
unfolding byte two three four lead decoded chars_after width in_pairs is_whitespace letter id_start id_continue emoji_char give eat eat_any while ◌>>=◌ texted choose if_at if_two scan first_with advance tokens_after
quotes_broken = refl

pub character_keyable : Keyable none character
unfolding byte two three four lead decoded chars_after width in_pairs is_whitespace letter id_start id_continue emoji_char give eat eat_any while ◌>>=◌ texted choose if_at if_two scan first_with advance tokens_after
character_keyable = refl

-- the second is the key of both: the key of the first is keyable, though the first is not
pub quotes_key : key_of none quotes ≡ character
unfolding byte two three four lead decoded chars_after width in_pairs is_whitespace letter id_start id_continue emoji_char give eat eat_any while ◌>>=◌ texted choose if_at if_two scan first_with advance tokens_after
quotes_key = refl

pub quotes_again : Keyable none (key_of none quotes)
quotes_again = rw quotes_key character_keyable

-- the same key does not give the same meaning where only one of two texts is keyable
pub keyable_needed : ((s t : List ℕ) → Keyable none t → key_of none s ≡ key_of none t → meaning none s ≡ meaning none t) → ⊥
keyable_needed law = quotes_clash.meanings (law quotes character character_keyable quotes_clash.key)

-- a key need not be its own key: the key of `'/**/' '` is `'⏎' '`, in which the space is trivia, and its key is `'⏎'⏎'`
abbrev pub loose : List ℕ
loose = 39 ∷ 47 ∷ 42 ∷ 42 ∷ 47 ∷ 39 ∷ 32 ∷ 39 ∷ []

pub loose_key : key_of none loose ≡ 39 ∷ 10 ∷ 39 ∷ 32 ∷ 39 ∷ []
unfolding byte two three four lead decoded chars_after width in_pairs is_whitespace letter id_start id_continue emoji_char give eat eat_any while ◌>>=◌ texted choose if_at if_two scan first_with advance tokens_after
loose_key = refl

pub loose_again : key_of none (key_of none loose) ≡ 39 ∷ 10 ∷ 39 ∷ 10 ∷ 39 ∷ []
unfolding byte two three four lead decoded chars_after width in_pairs is_whitespace letter id_start id_continue emoji_char give eat eat_any while ◌>>=◌ texted choose if_at if_two scan first_with advance tokens_after
loose_again = refl

pub again_needed : key_of none (key_of none loose) ≡ key_of none loose → ⊥
unfolding byte two three four lead decoded chars_after width in_pairs is_whitespace letter id_start id_continue emoji_char give eat eat_any while ◌>>=◌ texted choose if_at if_two scan first_with advance tokens_after
again_needed e = let z : ◌≡◌ {A = ℕ} 0 1 = cc in omega arith

-- and it need not be keyable: `"` is its own key
pub whole_needed : broken_at none (key_of none (34 ∷ [])) ≡ at 0
unfolding byte two three four lead decoded chars_after width in_pairs is_whitespace letter id_start id_continue emoji_char give eat eat_any while ◌>>=◌ texted choose if_at if_two scan first_with advance tokens_after
whole_needed = refl

-- WITHOUT GOOD LISTS: U+0085, which is whitespace, is lent as a start of identifiers. `1.` before it is a number and a dot, as before an identifier;
-- before a newline it is one number.
abbrev pub odd : Lists
odd = record { starts = 0x85 ∷ 0x85 ∷ []; continues = []; emoji = [] }

abbrev pub dotted : List ℕ
dotted = 49 ∷ 46 ∷ 0xC2 ∷ 0x85 ∷ []

abbrev pub float : List ℕ
float = 49 ∷ 46 ∷ 10 ∷ []

pub dotted_means : meaning odd dotted ≡ meant (Literal (Int Decimal false) 1) (49 ∷ []) ∷ meant Dot (46 ∷ []) ∷ gap ∷ []
unfolding byte two three four lead decoded chars_after width in_pairs is_whitespace letter id_start id_continue emoji_char give eat eat_any while ◌>>=◌ texted choose if_at if_two scan first_with advance tokens_after
dotted_means = refl

pub float_means : meaning odd float ≡ meant (Literal (Float Decimal false) 2) (49 ∷ 46 ∷ []) ∷ gap ∷ []
unfolding byte two three four lead decoded chars_after width in_pairs is_whitespace letter id_start id_continue emoji_char give eat eat_any while ◌>>=◌ texted choose if_at if_two scan first_with advance tokens_after
float_means = refl

pub dotted_clash : Clash odd dotted float
unfolding byte two three four lead decoded chars_after width in_pairs is_whitespace letter id_start id_continue emoji_char give eat eat_any while ◌>>=◌ texted choose if_at if_two scan first_with advance tokens_after
dotted_clash = record { key = refl; meanings = λ e. let z : ◌≡◌ {A = ℕ} 0 1 = cc in omega arith }

pub dotted_keyable : Keyable odd dotted
unfolding byte two three four lead decoded chars_after width in_pairs is_whitespace letter id_start id_continue emoji_char give eat eat_any while ◌>>=◌ texted choose if_at if_two scan first_with advance tokens_after
dotted_keyable = refl

pub float_keyable : Keyable odd float
unfolding byte two three four lead decoded chars_after width in_pairs is_whitespace letter id_start id_continue emoji_char give eat eat_any while ◌>>=◌ texted choose if_at if_two scan first_with advance tokens_after
float_keyable = refl

-- the second is the key of the first, which therefore does not mean what its text means
pub dotted_key : key_of odd dotted ≡ float
unfolding byte two three four lead decoded chars_after width in_pairs is_whitespace letter id_start id_continue emoji_char give eat eat_any while ◌>>=◌ texted choose if_at if_two scan first_with advance tokens_after
dotted_key = refl

-- the same key does not give the same meaning for all lists
pub fair_needed : ((L : Lists) (s t : List ℕ) → Keyable L s → Keyable L t → key_of L s ≡ key_of L t → meaning L s ≡ meaning L t) → ⊥
fair_needed law = dotted_clash.meanings (law odd dotted float dotted_keyable float_keyable dotted_clash.key)
