-- The state of a loop over a text, and its steps: each token begins where the one before it ends.
use Rattle.std.specs.Prelude.{ℕ, zero, suc, Bool, List, [], ◌∷◌}
use Rattle.token.specs.declared.Token.{Token}
use Rattle.token.specs.declared.TokenKind.TheVariants.{Eof}
use Rattle.token.specs.Lists.{Lists}
use Rattle.token.specs.Tokens.{in_place}
use Rattle.lexer.specs.declared.Scan.{Scan}
use Rattle.lexer.specs.Scans.{scan_at, records_from}

-- before the token at a position in a line: in its place Eof, of no length
abbrev pub before_in : (at line : ℕ) (on : Bool) → Scan
before_in at line on = record { token = record { kind = Eof; len = 0; start = at; line = line }; next = at; on = on }

-- before the token at a position of a text
abbrev pub before_of : (s : List ℕ) (at : ℕ) (on : Bool) → Scan
before_of s at on = record { token = in_place s at Eof 0; next = at; on = on }

-- before the first token
abbrev pub start_of : (on : Bool) → Scan
start_of on = before_in 0 0 on

-- the scan past a scan
abbrev pub next_of : Lists → (s : List ℕ) → Scan → Scan
next_of L s c = scan_at L s c.next c.on

-- the tokens of the next n scans
abbrev pub following : Lists → (s : List ℕ) (n : ℕ) → Scan → List Token
following L s zero c = []
following L s (suc n) c = (next_of L s c).token ∷ following L s n (next_of L s c)

-- the records of a text past a scan
abbrev pub records_past : Lists → (s : List ℕ) → Scan → List Token
records_past L s c = records_from L s c.next c.on
