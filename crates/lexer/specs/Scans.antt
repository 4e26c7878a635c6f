-- The token at a position of a text, in its place.
use Rattle.std.specs.Prelude.{ℕ, ◌+◌, ◌-◌, ◌≤◌, List, Bool, take, drop}
use Rattle.text.specs.Chars.{chars, size}
use Rattle.token.specs.Lists.{Lists}
use Rattle.token.specs.declared.Token as token
use Rattle.token.specs.Advance.{advance}
use Rattle.token.specs.Tokens.{tokens, in_place, placed}
use Rattle.cursor.specs.declared.Cursor.{Cursor}
use Rattle.cursor.specs.declared.Kinded.{Kinded}
use Rattle.cursor.specs.declared.Kinded.TheVariants.{Plain, Literal}
use Rattle.lexer.specs.declared.Bare.{Bare}
use Rattle.lexer.specs.declared.Scan.{Scan}

-- how many bytes the token at the front of the characters has
unfoldable pub token_size : Lists → (on : Bool) → List ℕ → ℕ
token_size L on cs = size (take (advance L on cs).took cs)

-- the token at a position without its place, the position past it, and whether frontmatter is on there
unfoldable pub bare_at : Lists → (s : List ℕ) (at : ℕ) (on : Bool) → Bare
bare_at L s at on =
    let cs = chars (drop at s) in
    record { kind = (advance L on cs).said.kind; len = token_size L on cs; next = at + token_size L on cs; on = (advance L on cs).said.on }

-- the same with the token in its place
abbrev pub scan_at : Lists → (s : List ℕ) (at : ℕ) (on : Bool) → Scan
scan_at L s at on =
    let x = bare_at L s at on in
    record { token = in_place s at x.kind x.len; next = x.next; on = x.on }

-- the records of a text from a position on
abbrev pub records_from : Lists → (s : List ℕ) (at : ℕ) (on : Bool) → List token.Token
records_from L s at on = placed s at (tokens L on (chars (drop at s)))

-- where a suffix starts is one of 000's numbers
abbrev pub Narrow : (from : Cursor) → Kinded → Type 0
Narrow from (Plain k) = Unit {0}
Narrow from (Literal k d) = (from.at ≤ d.at) × (d.at - from.at + 1 ≤ 4294967295)
