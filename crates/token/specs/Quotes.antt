-- Quoted literals (000's double_quoted_string and single_quoted_string), after the opening quote.
use Rattle.std.specs.Prelude.{ℕ, Bool, true, not}
use Rattle.basics.specs.Choice.{pick, and, or}
use Rattle.eaters.specs.Eat.{Eater, give, eat, ◌>>=◌, ◌>>◌}
use Rattle.eaters.specs.Look.{if_two}
use Rattle.eaters.specs.Scan.{Turn, break_off, close, go, skip, scan}
use Rattle.token.specs.declared.LiteralKind.{LiteralKind}
use Rattle.token.specs.Names.{is, 'newline', 'double', 'single', '/', '\'}
use Rattle.token.specs.Literals.{Body}

-- a body that ends well or not; a suffix is read only after one that does
abbrev pub quoted : (Bool → LiteralKind) → Bool → Body
quoted kind terminated = record { kind = kind terminated; suffixed = terminated }

-- a quote ends it; a backslash takes a backslash or a quote with it
abbrev pub double_turn : (depth c next : ℕ) → Turn
double_turn d c e = pick (is 'double' c) close (pick (and (is '\' c) (or (is '\' e) (is 'double' e))) (skip d) (go d))

abbrev pub double_quoted : (Bool → LiteralKind) → Eater Body
double_quoted kind = do
  terminated ← scan double_turn 0 1
  give (quoted kind terminated)

-- a quote ends it well; / and a newline that no quote follows break it off; a backslash takes two characters
abbrev pub single_turn : (depth c next : ℕ) → Turn
single_turn d c e =
    pick (is 'single' c) close
    (pick (is '/' c) break_off
    (pick (and (is 'newline' c) (not (is 'single' e))) break_off
    (pick (is '\' c) (skip d)
    (go d))))

-- if the second character is a quote and the first is not a backslash: those two; else the scan
abbrev pub single : Eater Bool
single = if_two (λ c. not (is '\' c)) (is 'single') (eat 2 >> give true) (scan single_turn 0 1)

abbrev pub single_quoted : (Bool → LiteralKind) → Eater Body
single_quoted kind = do
  terminated ← single
  give (quoted kind terminated)
