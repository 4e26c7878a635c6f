-- The raw check (000's validate_raw_str), of the characters after a prefix of ASCII letters.
use Rattle.std.specs.Prelude.{ℕ, ◌+◌, List, [], ◌∷◌, length, drop, ltb, Option, None, Some, Result, Ok, Err}
use Rattle.basics.specs.Choice.{pick, and}
use Rattle.eaters.specs.Eat.{take_while}
use Rattle.eaters.specs.Scan.{first_with}
use Rattle.text.specs.Chars.{width}
use Rattle.token.specs.declared.RawStrError.TheVariants.{InvalidStarter, NoTerminator, TooManyDelimiters}
use Rattle.token.specs.declared.RawStrError.{RawStrError}
use Rattle.token.specs.Names.{is, 'double', '#'}

-- the hashes at the front
abbrev pub hashes : List ℕ → ℕ
hashes cs = length (take_while (is '#') cs)

-- where the string may have been meant to end: past the first quote with the most hashes after it, if it has one. `place` counts bytes.
pub record Guess : Type 0 where
  pub most : ℕ
  pub offset : Option ℕ

unfoldable pub guess : (place : ℕ) → Guess → List ℕ → Guess
guess place g [] = g
guess place g (c ∷ cs) =
    guess (place + width c) (pick (and (is 'double' c) (ltb g.most (hashes cs))) (record { most = hashes cs; offset = Some (place + 1) }) g) cs

-- a string that does not end is reported before one with too many hashes
abbrev pub unended : (place n : ℕ) → List ℕ → Result (Unit {0}) RawStrError
unended place n cs = let g = guess place (record { most = 0; offset = None }) cs in Err (NoTerminator n g.most g.offset)

abbrev pub started : (prefix n : ℕ) → List ℕ → Result (Unit {0}) RawStrError
started prefix n [] = Err (InvalidStarter 0)
started prefix n (c ∷ cs) =
    pick (is 'double' c)
    (pick (first_with 'double' '#' n cs).said (pick (ltb n 256) (Ok tt) (Err (TooManyDelimiters n))) (unended (prefix + n + 1) n cs))
    (Err (InvalidStarter c))

-- n hashes, a quote, and a quote with n hashes; at most 255 of them
unfoldable pub raw_check : (prefix : ℕ) → List ℕ → Result (Unit {0}) RawStrError
raw_check prefix cs = started prefix (hashes cs) (drop (hashes cs) cs)
