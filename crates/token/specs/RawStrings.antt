-- Raw strings (000's raw_double_quoted_string), after the r.
use Rattle.std.specs.Prelude.{ℕ, Bool, true, false, length, ltb, Option, None, Some}
use Rattle.basics.specs.Choice.{pick, and}
use Rattle.eaters.specs.Eat.{Eater, give, while, ◌>>=◌, ◌>>◌}
use Rattle.eaters.specs.Look.{if_eat}
use Rattle.eaters.specs.Eat.{eat_any}
use Rattle.eaters.specs.Scan.{first_with}
use Rattle.token.specs.declared.LiteralKind.{LiteralKind}
use Rattle.token.specs.Names.{is, '#', 'double'}
use Rattle.token.specs.Literals.{Body}

-- with a count of hashes, or without one: then no suffix is read
abbrev pub counted : (Option ℕ → LiteralKind) → ℕ → Body
counted kind n = record { kind = kind (Some n); suffixed = true }

abbrev pub uncounted : (Option ℕ → LiteralKind) → Body
uncounted kind = record { kind = kind None; suffixed = false }

-- a string of n hashes that ends or not: more than 255 hashes have no count
abbrev pub raw_end : (Option ℕ → LiteralKind) → (n : ℕ) (terminated : Bool) → Body
raw_end kind n terminated = pick (and terminated (ltb n 256)) (counted kind n) (uncounted kind)

-- after n hashes and a quote: the first quote with n hashes after it closes
abbrev pub raw_rest : (Option ℕ → LiteralKind) → (n : ℕ) → Eater Body
raw_rest kind n = do
  terminated ← first_with 'double' '#' n
  give (raw_end kind n terminated)

-- after n hashes: a quote opens the string; any other character is taken, and there is no count
abbrev pub after_hashes : (Option ℕ → LiteralKind) → (n : ℕ) → Eater Body
after_hashes kind n = if_eat (is 'double') (raw_rest kind n) (eat_any >> give (uncounted kind))

-- hashes, and what they open
abbrev pub raw_string : (Option ℕ → LiteralKind) → Eater Body
raw_string kind = do
  hashes ← while (is '#')
  after_hashes kind (length hashes)
