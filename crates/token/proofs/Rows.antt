-- Document 01, "Lines on both sides": the first token of each text, with empty lists, computed by the definitions from the text's bytes.
use Rattle.std.specs.Prelude.{None, Some, Err}
use Prim.Native.Nat.{ℕ}
use mathlib.Core.Path.{◌≡◌, refl}
use mathlib.Core.Bool.{Bool, true, false}
use mathlib.Core.List.{List, [], ◌∷◌}
use lib.ListN.{get_or, drop}
use Rattle.text.specs.Utf8.{byte, two, three, four, lead, decoded}
use Rattle.text.specs.Chars.{chars_after, chars, width}
use Rattle.ranges.specs.Search.{in_pairs}
use Rattle.classes.specs.Whitespace.{is_whitespace, is_horizontal_whitespace}
use Rattle.classes.specs.Identifiers.{letter, id_start, id_continue}
use Rattle.classes.specs.Emoji.{emoji_char}
use Rattle.eaters.specs.Eat.{give, eat, eat_any, while, while_most, ◌>>=◌, texted, choose}
use Rattle.eaters.specs.Look.{if_at, if_two, if_begins}
use Rattle.eaters.specs.Scan.{scan, first_with}
use Rattle.eaters.specs.Find.{at, nowhere, find}
use Rattle.token.specs.declared.DocStyle.TheVariants.{Outer, Inner}
use Rattle.token.specs.declared.Base.TheVariants.{Binary, Decimal, Hexadecimal}
use Rattle.token.specs.declared.LiteralKind.TheVariants as literal
use Rattle.token.specs.declared.LiteralKind.TheVariants.{Int, Float, Char, Str}
use Rattle.token.specs.declared.TokenKind.{TokenKind}
use Rattle.token.specs.declared.TokenKind.TheVariants.{LineComment, BlockComment, Whitespace, Frontmatter, Literal, Unknown, Eof}
use Rattle.token.specs.declared.Token.{Token}
use Rattle.token.specs.declared.RawStrError.TheVariants.{NoTerminator}
use Rattle.token.specs.Lists.{none}
use Rattle.token.specs.Frontmatter.{last_search, body}
use Rattle.token.specs.Advance.{advance}
use Rattle.token.specs.Tokens.{tokens_after, records}
use Rattle.token.specs.Trivia.{is_trivia}
use Rattle.token.specs.Broken.{is_broken}
use Rattle.token.specs.Guarded.{guarded_string}
use Rattle.token.specs.RawCheck.{guess, raw_check}
use Rattle.token.specs.Shebang.{line_bytes, shebang}

-- a text, whether frontmatter is on, and the kind and length of its first token
pub record Line : Type 0 where
  pub text : List ℕ
  pub on : Bool
  pub kind : TokenKind
  pub len : ℕ

abbrev line : TokenKind → ℕ → List ℕ → Line
line k n s = record { text = s; on = false; kind = k; len = n }

abbrev fronted : TokenKind → ℕ → List ℕ → Line
fronted k n s = record { text = s; on = true; kind = k; len = n }

abbrev token : TokenKind → ℕ → Token
token k n = record { kind = k; len = n; start = 0; line = 0 }

-- every line holds
abbrev Hold : List Line → Type 0
Hold [] = Unit {0}
Hold (l ∷ ls) = (get_or (records none l.on l.text) 0 (token Eof 0) ≡ token l.kind l.len) × Hold ls

-- the rows marked P
abbrev pub marked : List Line
marked =
    line (BlockComment None false) 5 (47 ∷ 42 ∷ 47 ∷ 42 ∷ 47 ∷ [])
    ∷ line (BlockComment None true) 5 (47 ∷ 42 ∷ 42 ∷ 42 ∷ 47 ∷ [])
    ∷ line (BlockComment (Some Outer) true) 6 (47 ∷ 42 ∷ 42 ∷ 97 ∷ 42 ∷ 47 ∷ [])
    ∷ line (LineComment None) 4 (47 ∷ 47 ∷ 47 ∷ 47 ∷ [])
    ∷ line (Literal (literal.RawStr None) 4) 4 (114 ∷ 35 ∷ 35 ∷ 126 ∷ 120 ∷ [])
    ∷ line (Literal (Char true) 4) 4 (39 ∷ 97 ∷ 98 ∷ 39 ∷ 99 ∷ [])
    ∷ line (Literal (Char true) 3) 4 (39 ∷ 97 ∷ 39 ∷ 99 ∷ [])
    ∷ line (Literal (Char true) 3) 3 (39 ∷ 39 ∷ 39 ∷ [])
    ∷ line (Literal (Int Decimal false) 1) 1 (49 ∷ 46 ∷ 102 ∷ 111 ∷ 111 ∷ [])
    ∷ line (Literal (Float Decimal false) 2) 2 (49 ∷ 46 ∷ [])
    ∷ line (Literal (Int Decimal false) 3) 5 (49 ∷ 50 ∷ 95 ∷ 117 ∷ 56 ∷ [])
    ∷ line (Literal (Int Binary false) 3) 3 (48 ∷ 98 ∷ 50 ∷ [])
    ∷ []

pub marked_hold : Hold marked
unfolding byte two three four lead decoded chars_after width in_pairs is_whitespace is_horizontal_whitespace letter id_start id_continue emoji_char give eat eat_any while while_most ◌>>=◌ texted choose if_at if_two if_begins scan first_with find last_search body advance tokens_after
marked_hold = (refl, (refl, (refl, (refl, (refl, (refl, (refl, (refl, (refl, (refl, (refl, (refl, tt))))))))))))

-- the other rows; texts with a NUL, which is a character like others; block comments in which no star or slash is used twice; a suffix after a wide character
abbrev pub others : List Line
others =
    line (Literal (Int Hexadecimal false) 5) 5 (48 ∷ 120 ∷ 49 ∷ 101 ∷ 51 ∷ [])
    ∷ fronted (Frontmatter false false) 9 (45 ∷ 45 ∷ 45 ∷ 10 ∷ 120 ∷ 10 ∷ 45 ∷ 45 ∷ 45 ∷ 10 ∷ [])
    ∷ fronted (Frontmatter false false) 9 (45 ∷ 45 ∷ 45 ∷ 10 ∷ 45 ∷ 45 ∷ 45 ∷ 45 ∷ 120 ∷ 10 ∷ [])
    ∷ fronted (Frontmatter false false) 10 (45 ∷ 45 ∷ 45 ∷ 45 ∷ 10 ∷ 120 ∷ 10 ∷ 45 ∷ 45 ∷ 45 ∷ 10 ∷ 121 ∷ [])
    ∷ fronted (Frontmatter false false) 15 (45 ∷ 45 ∷ 45 ∷ 32 ∷ 97 ∷ 10 ∷ 98 ∷ 45 ∷ 45 ∷ 45 ∷ 32 ∷ 32 ∷ 45 ∷ 45 ∷ 45 ∷ 10 ∷ 122 ∷ [])
    ∷ line (Unknown) 1 (0 ∷ [])
    ∷ line (Literal (Char true) 3) 3 (39 ∷ 0 ∷ 39 ∷ [])
    ∷ line (Literal (Str true) 3) 3 (34 ∷ 0 ∷ 34 ∷ [])
    ∷ line (BlockComment None true) 5 (47 ∷ 42 ∷ 0 ∷ 42 ∷ 47 ∷ [])
    ∷ line (BlockComment None false) 3 (47 ∷ 42 ∷ 47 ∷ [])
    ∷ line (BlockComment None false) 7 (47 ∷ 42 ∷ 47 ∷ 42 ∷ 47 ∷ 42 ∷ 47 ∷ [])
    ∷ line (Literal (Char true) 4) 5 (39 ∷ 195 ∷ 169 ∷ 39 ∷ 120 ∷ [])
    ∷ []

pub others_hold : Hold others
unfolding byte two three four lead decoded chars_after width in_pairs is_whitespace is_horizontal_whitespace letter id_start id_continue emoji_char give eat eat_any while while_most ◌>>=◌ texted choose if_at if_two if_begins scan first_with find last_search body advance tokens_after
others_hold = (refl, (refl, (refl, (refl, (refl, (refl, (refl, (refl, (refl, (refl, (refl, (refl, tt))))))))))))

-- the raw check: r##"é"# with prefix 1 gives NoTerminator, expected 2, found 1, offset 7
pub raw_row : raw_check 1 (chars (drop 1 (114 ∷ 35 ∷ 35 ∷ 34 ∷ 195 ∷ 169 ∷ 34 ∷ 35 ∷ []))) ≡ Err (NoTerminator 2 1 (Some 7))
unfolding byte two three four lead decoded chars_after width in_pairs is_whitespace is_horizontal_whitespace letter id_start id_continue emoji_char give eat eat_any while while_most ◌>>=◌ texted choose if_at if_two if_begins scan first_with find last_search body advance tokens_after guess raw_check
raw_row = refl

-- the guarded string: ##"a"x gives 2 hashes, terminated, length 6
pub guarded_row : guarded_string none (chars (35 ∷ 35 ∷ 34 ∷ 97 ∷ 34 ∷ 120 ∷ [])) ≡ record { took = 6; said = Some (record { n_hashes = 2; terminated = true; token_len = 6 }) }
unfolding byte two three four lead decoded chars_after width in_pairs is_whitespace is_horizontal_whitespace letter id_start id_continue emoji_char give eat eat_any while while_most ◌>>=◌ texted choose if_at if_two if_begins scan first_with find last_search body advance tokens_after
guarded_row = refl

-- the shebang: none before an attribute; else it ends before LF or CR LF
pub shebang_rows : (shebang none (35 ∷ 33 ∷ 91 ∷ 97 ∷ 93 ∷ []) ≡ nowhere) × ((shebang none (35 ∷ 33 ∷ 97 ∷ 13 ∷ 10 ∷ []) ≡ at 3) × (shebang none (35 ∷ 33 ∷ 97 ∷ 13 ∷ []) ≡ at 4))
unfolding byte two three four lead decoded chars_after width in_pairs is_whitespace is_horizontal_whitespace letter id_start id_continue emoji_char give eat eat_any while while_most ◌>>=◌ texted choose if_at if_two if_begins scan first_with find last_search body advance tokens_after line_bytes shebang
shebang_rows = (refl, (refl, refl))

-- trivia (document 01, "The key"): whitespace, and comments whose doc style is none; a doc comment of either style is not trivia
pub trivia_rows :
    (is_trivia Whitespace ≡ true) × (is_trivia (LineComment None) ≡ true) × (is_trivia (BlockComment None true) ≡ true) × (is_trivia (LineComment (Some Outer)) ≡ false)
    × (is_trivia (LineComment (Some Inner)) ≡ false) × (is_trivia (BlockComment (Some Outer) true) ≡ false) × (is_trivia (BlockComment (Some Inner) true) ≡ false)
trivia_rows = (refl, refl, refl, refl, refl, refl, refl)

-- broken (document 01, "The key"): a literal that does not end or has no hash count, and a block comment that does not end
pub broken_rows :
    (is_broken (Literal (Char false) 2) ≡ true) × (is_broken (Literal (Char true) 3) ≡ false) × (is_broken (Literal (literal.RawStr None) 4) ≡ true)
    × (is_broken (Literal (literal.RawStr (Some 0)) 4) ≡ false) × (is_broken (BlockComment None false) ≡ true) × (is_broken (BlockComment None true) ≡ false)
broken_rows = (refl, refl, refl, refl, refl, refl)
