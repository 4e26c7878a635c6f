-- Numbers (000's number and the digits that it eats), after the first digit.
use Rattle.std.specs.Prelude.{ℕ, List, [], ◌∷◌, Bool, true, false, not}
use Rattle.basics.specs.Choice.{or}
use Rattle.eaters.specs.Eat.{Eater, give, nothing, while, ◌>>=◌, ◌>>◌, choose}
use Rattle.eaters.specs.Look.{if_at, if_two, if_eat}
use Rattle.basics.specs.Tests.{within}
use Rattle.classes.specs.Identifiers.{digit, underscore}
use Rattle.token.specs.declared.Base.{Base}
use Rattle.token.specs.declared.Base.TheVariants.{Binary, Octal, Decimal, Hexadecimal}
use Rattle.token.specs.declared.LiteralKind.TheVariants.{Int, Float}
use Rattle.token.specs.Names.{is, '+', '-', 'dot', '0', 'E', 'b', 'e', 'o', 'x'}
use Rattle.token.specs.Lists.{Lists, starting}
use Rattle.token.specs.Literals.{Body}

-- some character of the list is of p
abbrev pub any : (ℕ → Bool) → List ℕ → Bool
any p [] = false
any p (c ∷ l) = or (p c) (any p l)

abbrev pub hex_digit : ℕ → Bool
hex_digit c = or (digit c) (or (within 0x61 0x66 c) (within 0x41 0x46 c))

-- digits and underscores
abbrev pub decimals : ℕ → Bool
decimals c = or (digit c) (underscore c)

abbrev pub hexadecimals : ℕ → Bool
hexadecimals c = or (hex_digit c) (underscore c)

-- a number that may have a suffix
abbrev pub int : Base → (empty : Bool) → Body
int base empty = record { kind = Int base empty; suffixed = true }

abbrev pub float : Base → (empty : Bool) → Body
float base empty = record { kind = Float base empty; suffixed = true }

-- the sign of an exponent, if there is one
abbrev pub sign : Eater (Unit {0})
sign = if_eat (λ c. or (is '-' c) (is '+' c)) nothing nothing

-- after the e: a sign, and digits and underscores; empty if none of them is a digit
abbrev pub exponent : Base → Eater Body
exponent base = do
  sign
  t ← while decimals
  give (float base (not (any digit t)))

abbrev pub maybe_exponent : Base → Body → Eater Body
maybe_exponent base else = if_eat (λ c. or (is 'e' c) (is 'E' c)) (exponent base) (give else)

-- after a point that joins: digits and then an exponent; without a digit there is no exponent either
abbrev pub after_point : Base → Eater Body
after_point base = if_at digit (while decimals >> maybe_exponent base (float base false)) (give (float base false))

-- after the digits: a point joins, unless a point or the start of an identifier follows it; an exponent follows digits
abbrev pub fraction : Lists → Base → Eater Body
fraction L base =
    if_two (is 'dot') (λ c. or (is 'dot' c) (starting L c)) (give (int base false))
    (if_eat (is 'dot') (after_point base) (maybe_exponent base (int base false)))

-- after the digits that follow a base prefix: without a digit it is empty, and ends there
abbrev pub after_digits : Lists → Base → (some : Bool) → Eater Body
after_digits L base some = choose some (fraction L base) (give (int base true))

-- after a base prefix
abbrev pub based : Lists → Base → (digits one : ℕ → Bool) → Eater Body
based L base digits one = do
  t ← while digits
  after_digits L base (any one t)

abbrev pub decimal : Lists → Eater Body
decimal L = while decimals >> fraction L Decimal

-- binary and octal take all decimal digits
abbrev pub number : Lists → (first : ℕ) → Eater Body
number L first =
    choose (is '0' first)
    (if_eat (is 'b') (based L Binary decimals digit)
    (if_eat (is 'o') (based L Octal decimals digit)
    (if_eat (is 'x') (based L Hexadecimal hexadecimals hex_digit)
    (decimal L))))
    (decimal L)
