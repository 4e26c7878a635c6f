-- In a word, and after a prefix: what a character does.
use Rattle.std.specs.Prelude.{ℕ, List, [], ◌∷◌, false}
use Rattle.basics.specs.Choice.{pick}
use Rattle.token.specs.Names.{is, 'double', '#', 'single', 'r'}
use Rattle.token.specs.Lists.{Lists, starting, going, smiling}
use Rattle.token.specs.Words.{in_invalid}
use Rattle.token.specs.Punctuation.{hash_or_quote}
use Rattle.machine.specs.declared.Mode.TheVariants.{Start, InWord, InBadWord, InName, InString, Broken, GotRHash, GotNameHash, GotBR, GotByteQuote, RawHashes, RawBody}
use Rattle.goes.specs.declared.Goes.{Goes}
use Rattle.goes.specs.declared.Goes.TheVariants.{Takes, Drops, Ends}

-- the modes but InWord, by their places: InBadWord, InName, Suffix; GotR, GotRHash, GotK, GotNameHash, GotB, GotC, GotBR, GotHash
abbrev pub word_modes : List ℕ
word_modes = 10 ∷ 11 ∷ 12 ∷ 16 ∷ 17 ∷ 18 ∷ 19 ∷ 20 ∷ 21 ∷ 22 ∷ 23 ∷ []

-- mode InWord: an identifier, which emoji make an invalid one
abbrev pub word_goes : Lists → (c : ℕ) → Goes
word_goes L c = pick (going L c) (Takes InWord) (pick (smiling L c) (Takes InBadWord) (Ends false))

-- mode InBadWord: an invalid identifier
abbrev pub bad_word_goes : Lists → (c : ℕ) → Goes
bad_word_goes L c = pick (in_invalid L c) (Takes InBadWord) (Ends false)

-- mode InName: a raw identifier, a suffix, a raw lifetime
abbrev pub name_goes : Lists → (c : ℕ) → Goes
name_goes L c = pick (going L c) (Takes InName) (Ends false)

-- mode GotHash, after #: the prefix of a guarded string, or punctuation
abbrev pub hash_goes : (c : ℕ) → Goes
hash_goes c = pick (hash_or_quote c) (Takes (Start false)) (Ends false)

-- mode GotR, after r: a raw identifier or a raw string with hashes, a raw string without, a word
abbrev pub r_goes : Lists → (c : ℕ) → Goes
r_goes L c = pick (is '#' c) (Takes GotRHash) (pick (is 'double' c) (Takes (RawBody 0)) (word_goes L c))

-- mode GotRHash, after r#: a raw identifier, or a raw string, which is broken if no quote follows its hashes
abbrev pub r_hash_goes : Lists → (c : ℕ) → Goes
r_hash_goes L c = pick (starting L c) (Takes InName) (pick (is '#' c) (Takes (RawHashes 2)) (pick (is 'double' c) (Takes (RawBody 1)) (Drops Broken)))

-- mode GotK, after k: a forced keyword, or a word
abbrev pub k_goes : Lists → (c : ℕ) → Goes
k_goes L c = pick (is '#' c) (Takes GotNameHash) (word_goes L c)

-- mode GotNameHash, after k# and 'r#: a name, or else what # begins
abbrev pub name_hash_goes : Lists → (c : ℕ) → Goes
name_hash_goes L c = pick (starting L c) (Takes InName) (hash_goes c)

-- mode GotC, after c: a C string, a raw one, a word
abbrev pub c_goes : Lists → (c : ℕ) → Goes
c_goes L c = pick (is 'double' c) (Takes InString) (pick (is 'r' c) (Takes GotBR) (word_goes L c))

-- mode GotB, after b: a byte, or as after c
abbrev pub b_goes : Lists → (c : ℕ) → Goes
b_goes L c = pick (is 'single' c) (Takes GotByteQuote) (c_goes L c)

-- mode GotBR, after br and cr: a raw string, or a word
abbrev pub br_goes : Lists → (c : ℕ) → Goes
br_goes L c = pick (is 'double' c) (Takes (RawBody 0)) (pick (is '#' c) (Takes (RawHashes 1)) (word_goes L c))
