-- The Rust Reference, "Identifiers", 000's is_id_start, is_id_continue and is_ident, and document 01: below 0x80 an identifier starts with a
-- letter or `_`, and digits go on in one; from 0x80 on the lent lists say so.
use Rattle.std.specs.Prelude.{ℕ, List, [], ◌∷◌, Bool, false, ltb, eqb}
use Rattle.basics.specs.Choice.{pick, and, or}
use Rattle.basics.specs.Tests.{within, all}
use Rattle.ranges.specs.Search.{in_pairs}

-- A to Z, a to z
unfoldable pub letter : ℕ → Bool
letter c = or (within 0x41 0x5A c) (within 0x61 0x7A c)

-- 0 to 9
abbrev pub digit : ℕ → Bool
digit c = within 0x30 0x39 c

-- the underscore
abbrev pub underscore : ℕ → Bool
underscore c = eqb c 0x5F

unfoldable pub id_start : (starts : List ℕ) → ℕ → Bool
id_start starts c = pick (ltb c 0x80) (or (letter c) (underscore c)) (in_pairs c starts)

unfoldable pub id_continue : (continues : List ℕ) → ℕ → Bool
id_continue continues c = pick (ltb c 0x80) (or (letter c) (or (underscore c) (digit c))) (in_pairs c continues)

-- of characters: no characters are not an identifier; the first one starts it, and every other one goes on in it
abbrev pub is_ident : (starts continues : List ℕ) → List ℕ → Bool
is_ident starts continues [] = false
is_ident starts continues (c ∷ cs) = and (id_start starts c) (all (id_continue continues) cs)
