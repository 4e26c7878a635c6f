-- One token (000's advance_token): the end is answered first, and then there is one decision over the first character, in 000's order of arms.
use Rattle.std.specs.Prelude.{ℕ, suc, List, [], ◌∷◌, Bool, true, false, eqb}
use Rattle.basics.specs.Choice.{and}
use Rattle.eaters.specs.Eat.{Eater, give, eat, while, ◌>>=◌, ◌>>◌, choose}
use Rattle.eaters.specs.Look.{if_two}
use Rattle.eaters.specs.Look.{if_begins}
use Rattle.classes.specs.Identifiers.{digit}
use Rattle.classes.specs.Whitespace.{is_whitespace}
use Rattle.token.specs.declared.LiteralKind.TheVariants.{Str, CStr, RawCStr}
use Rattle.token.specs.declared.TokenKind.{TokenKind}
use Rattle.token.specs.declared.TokenKind.TheVariants as kind
use Rattle.token.specs.Names.{is, 'newline', 'double', '#', 'single', '-', '/', 'b', 'c', 'k', 'r'}
use Rattle.token.specs.Lists.{Lists, starting, smiling}
use Rattle.token.specs.Literals.{literal}
use Rattle.token.specs.Whitespace.{whitespace}
use Rattle.token.specs.Comments.{slash}
use Rattle.token.specs.Words.{ident_or_unknown_prefix, invalid_ident}
use Rattle.token.specs.Quotes.{double_quoted}
use Rattle.token.specs.Numbers.{number}
use Rattle.token.specs.Lifetimes.{lifetime_or_char}
use Rattle.token.specs.Prefixed.{after_r, after_k, after_b, after_c}
use Rattle.token.specs.Punctuation.{symbols, is_symbol, symbol_kind, pound}
use Rattle.token.specs.Frontmatter.{dashes, frontmatter}

-- after the first character c, frontmatter off
abbrev pub plain : Lists → (c : ℕ) → Eater TokenKind
plain L c =
    choose (is '/' c) slash
    (choose (is_whitespace c) whitespace
    (choose (is 'r' c) (after_r L)
    (choose (is 'k' c) (after_k L)
    (choose (is 'b' c) (after_b L)
    (choose (is 'c' c) (after_c L CStr RawCStr)
    (choose (starting L c) (ident_or_unknown_prefix L)
    (choose (digit c) (literal L 1 (number L c))
    (choose (is '#' c) pound
    (choose (is_symbol symbols c) (give (symbol_kind symbols kind.Unknown c))
    (choose (is 'single' c) (lifetime_or_char L)
    (choose (is 'double' c) (literal L 1 (double_quoted Str))
    (choose (smiling L c) (invalid_ident L)
    (give kind.Unknown)))))))))))))

-- the last of c and the characters after it
abbrev pub last : (c : ℕ) → List ℕ → ℕ
last c [] = c
last c (d ∷ ds) = last d ds

-- whitespace that may stand before a frontmatter: a fence right after it belongs to it, unless a newline ends it
abbrev pub leading : Lists → (c : ℕ) → Eater TokenKind
leading L c = do
  blanks ← while is_whitespace
  choose (is 'newline' (last c blanks)) (give kind.Whitespace)
      (if_begins (dashes 3) (eat 1 >> frontmatter L true) (give kind.Whitespace))

-- after the first character c, frontmatter on
abbrev pub fronted : Lists → (c : ℕ) → Eater TokenKind
fronted L c =
    choose (is_whitespace c) (leading L c)
    (choose (is '-' c) (if_two (is '-') (is '-') (frontmatter L false) (plain L c))
    (plain L c))

-- after the first character c, frontmatter on or off
abbrev pub decided : Lists → (on : Bool) (c : ℕ) → Eater TokenKind
decided L on c = choose on (fronted L c) (plain L c)

-- on stays on through whitespace only
abbrev pub stays : TokenKind → Bool
stays k = eqb (Rattle.token.specs.Kinds.kind_number k) 2

-- a token without its place: its kind, and whether frontmatter is on after it
pub record Told : Type 0 where
  pub kind : TokenKind
  pub on : Bool

-- the token at the front of the characters. At the end: Eof, which takes nothing and changes nothing.
unfoldable pub advance : Lists → (on : Bool) → Eater Told
advance L on [] = record { took = 0; said = record { kind = kind.Eof; on = on } }
advance L on (c ∷ cs) =
    let r = decided L on c cs in
    record { took = suc r.took; said = record { kind = r.said; on = and on (stays r.said) } }
