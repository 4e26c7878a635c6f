-- Frontmatter (000's frontmatter), after its first dash.
use Rattle.std.specs.Prelude.{ℕ, zero, suc, ◌+◌, List, [], ◌∷◌, Bool, true, false, length, drop}
use Rattle.basics.specs.Choice.{pick, and, or}
use Rattle.eaters.specs.Eat.{Eater, give, nothing, take_while, while, ◌>>=◌, ◌>>◌}
use Rattle.eaters.specs.Look.{if_at, if_eat}
use Rattle.eaters.specs.Look.{begins}
use Rattle.eaters.specs.Find.{Place, at, nowhere, further, find, or_else}
use Rattle.classes.specs.Whitespace.{is_horizontal_whitespace}
use Rattle.token.specs.declared.TokenKind.{TokenKind}
use Rattle.token.specs.declared.TokenKind.TheVariants as kind
use Rattle.token.specs.Names.{is, 'newline', 'space', '!', '#', '-', 'dot', '/', '[', 'e', 's', 'u'}
use Rattle.token.specs.Lists.{Lists, starting, going}
use Rattle.token.specs.Comments.{in_line}

-- how many characters are left on the line
abbrev pub line_rest : List ℕ → ℕ
line_rest cs = length (take_while in_line cs)

-- n dashes
abbrev pub dashes : ℕ → List ℕ
dashes zero = []
dashes (suc n) = '-' ∷ dashes n

-- where these characters are first found
abbrev pub first : List ℕ → List ℕ → Place
first l cs = find (begins l) cs

-- only blanks up to and with c, if `blank` says so before it; a newline begins a new line
abbrev pub still_blank : (blank : Bool) → ℕ → Bool
still_blank blank c = or (is 'newline' c) (and blank (is_horizontal_whitespace c))

-- THE LAST SEARCH: the first three dashes before which there are only blanks, counted from the start of their line, or from where the
-- search began, or from the three dashes before them. `skip` characters belong to dashes that were passed; `blank`: only blanks so far.
unfoldable pub last_search : (skip : ℕ) (blank : Bool) → List ℕ → Place
last_search zero blank [] = nowhere
last_search (suc k) blank [] = nowhere
last_search (suc k) blank (c ∷ cs) = further (last_search k blank cs)
last_search zero blank (c ∷ cs) =
    pick (begins (dashes 3) (c ∷ cs))
    (pick blank (at 0) (further (last_search 2 true cs)))
    (further (last_search 0 (still_blank blank c) cs))

-- the newlines that Rust may begin after: before `use `, before `//!`, before `#![`
abbrev pub use_line : List ℕ
use_line = 'newline' ∷ 'u' ∷ 's' ∷ 'e' ∷ 'space' ∷ []

abbrev pub doc_line : List ℕ
doc_line = 'newline' ∷ '/' ∷ '/' ∷ '!' ∷ []

abbrev pub attribute_line : List ℕ
attribute_line = 'newline' ∷ '#' ∷ '!' ∷ '[' ∷ []

-- without a closing fence: past the first newline with three dashes; else the first newline before `use `, else before `//!`, else before `#![`,
-- each searched through the whole rest; else the last search
abbrev pub recovery : List ℕ → Place
recovery cs =
    or_else (further (first ('newline' ∷ dashes 3) cs))
    (or_else (first use_line cs) (or_else (first doc_line cs) (or_else (first attribute_line cs) (last_search 0 true cs))))

-- to a place and past the rest of its line; everything, if there is no place
abbrev pub line_at : Place → List ℕ → ℕ
line_at (at k) cs = k + line_rest (drop k cs)
line_at nowhere cs = length cs

-- a fence of n dashes closes at the first newline with n dashes; the rest of that line is eaten, the newline is not
abbrev pub closed : (n : ℕ) → Place → List ℕ → ℕ
closed n (at k) cs = line_at (at (k + suc n)) cs
closed n nowhere cs = line_at (recovery cs) cs

unfoldable pub body : (n : ℕ) → Eater (Unit {0})
body n cs = record { took = closed n (first ('newline' ∷ dashes n) cs) cs; said = tt }

-- what goes on in an infostring: what goes on in an identifier, and - and .
abbrev pub in_infostring : Lists → ℕ → Bool
in_infostring L c = or (going L c) (or (is '-' c) (is 'dot' c))

-- the infostring: like an identifier, with - and . in it
abbrev pub infostring : Lists → Eater (Unit {0})
infostring L = if_eat (starting L) (while (in_infostring L) >> nothing) nothing

-- blanks and the infostring stand on the fence's line; the infostring is invalid if no newline comes right after them, at the end of the text too
abbrev pub frontmatter : Lists → (invalidBefore : Bool) → Eater TokenKind
frontmatter L invalidBefore = do
  more ← while (is '-')
  while is_horizontal_whitespace
  infostring L
  while is_horizontal_whitespace
  if_at (is 'newline')
      (body (suc (length more)) >> give (kind.Frontmatter invalidBefore false))
      (body (suc (length more)) >> give (kind.Frontmatter invalidBefore true))
