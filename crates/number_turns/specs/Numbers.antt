-- In a number: what a character does.
use Rattle.std.specs.Prelude.{ℕ, Bool, false}
use Rattle.basics.specs.Choice.{pick, or}
use Rattle.classes.specs.Identifiers.{digit}
use Rattle.token.specs.Names.{is, 'dot', 'b', 'o', 'x'}
use Rattle.token.specs.Lists.{Lists, starting}
use Rattle.token.specs.Numbers.{hex_digit, decimals, hexadecimals}
use Rattle.machine.specs.declared.Mode.TheVariants.{InDigits, InBased, InHex, GotDot, InFraction, GotE, InExponent}
use Rattle.machine.specs.Machine.{sign_mark, exponent_mark}
use Rattle.goes.specs.declared.Goes.{Goes}
use Rattle.goes.specs.declared.Goes.TheVariants.{Takes, Ends}
use Rattle.goes.specs.Suffix.{suffix_goes}

-- after the digits of a number: a point, an exponent, a suffix
abbrev pub fraction_goes : Lists → (c : ℕ) → Goes
fraction_goes L c = pick (is 'dot' c) (Takes GotDot) (pick (exponent_mark c) (Takes GotE) (suffix_goes L c))

-- mode InExponent: digits, and a suffix
abbrev pub exponent_goes : Lists → (c : ℕ) → Goes
exponent_goes L c = pick (decimals c) (Takes InExponent) (suffix_goes L c)

-- mode InDigits: decimal digits and underscores
abbrev pub digits_goes : Lists → (c : ℕ) → Goes
digits_goes L c = pick (decimals c) (Takes InDigits) (fraction_goes L c)

-- mode GotZero: the letter of a base, or as after any digit
abbrev pub zero_goes : Lists → (c : ℕ) → Goes
zero_goes L c = pick (or (is 'b' c) (is 'o' c)) (Takes (InBased false)) (pick (is 'x' c) (Takes (InHex false)) (digits_goes L c))

-- after the digits of a number with a base: if there are none, a suffix alone
abbrev pub some_goes : Lists → (some : Bool) (c : ℕ) → Goes
some_goes L h c = pick h (fraction_goes L c) (suffix_goes L c)

-- mode InBased, after 0b and 0o: decimal digits, and whether one came
abbrev pub based_goes : Lists → (some : Bool) (c : ℕ) → Goes
based_goes L h c = pick (decimals c) (Takes (InBased (or h (digit c)))) (some_goes L h c)

-- mode InHex, after 0x: hexadecimal digits, and whether one came
abbrev pub hex_goes : Lists → (some : Bool) (c : ℕ) → Goes
hex_goes L h c = pick (hexadecimals c) (Takes (InHex (or h (hex_digit c)))) (some_goes L h c)

-- mode GotDot: a digit goes on; else the next token begins, and whether the point was one of its own makes no difference to the key
abbrev pub dot_goes : Lists → (c : ℕ) → Goes
dot_goes L c = pick (or (is 'dot' c) (starting L c)) (Ends false) (pick (digit c) (Takes InFraction) (Ends false))

-- mode InFraction: digits, an exponent, a suffix
abbrev pub in_fraction_goes : Lists → (c : ℕ) → Goes
in_fraction_goes L c = pick (decimals c) (Takes InFraction) (pick (exponent_mark c) (Takes GotE) (suffix_goes L c))

-- mode GotE: a sign, or as in the exponent
abbrev pub e_goes : Lists → (c : ℕ) → Goes
e_goes L c = pick (sign_mark c) (Takes InExponent) (exponent_goes L c)
