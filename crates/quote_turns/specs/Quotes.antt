-- In a string, in single quotes and in a lifetime: what a character does.
use Rattle.std.specs.Prelude.{ℕ, Bool, false}
use Rattle.basics.specs.Choice.{pick, and, or}
use Rattle.token.specs.Names.{is, 'newline', 'double', '#', 'single', '/', '\', 'r'}
use Rattle.token.specs.Lists.{Lists, going}
use Rattle.token.specs.Lifetimes.{naming}
use Rattle.machine.specs.declared.Mode.TheVariants.{Start, Suffix, InString, StringEscape, Broken, GotNameHash, GotQuotes, WantsQuote, QuotedName, InLifetime, InQuotes, QuotesEscape}
use Rattle.goes.specs.declared.Goes.{Goes}
use Rattle.goes.specs.declared.Goes.TheVariants.{Takes, Drops, Ends}
use Rattle.goes.specs.Suffix.{suffix_goes}

-- mode InString: a quote ends it, but for one after a backslash
abbrev pub string_goes : (c : ℕ) → Goes
string_goes c = pick (is 'double' c) (Takes Suffix) (pick (is '\' c) (Takes StringEscape) (Takes InString))

-- mode GotByteQuote, the first character in single quotes: / and newline may stand there alone
abbrev pub quoted_goes : (c : ℕ) → Goes
quoted_goes c = pick (is 'single' c) (Takes GotQuotes) (pick (or (is '/' c) (is 'newline' c)) (Takes WantsQuote) (pick (is '\' c) (Takes QuotesEscape) (Takes InQuotes)))

-- mode GotQuote: a name or a digit may begin a lifetime; anything else is quoted
abbrev pub quote_goes : Lists → (c : ℕ) → Goes
quote_goes L c = pick (naming L c) (Takes (QuotedName (is 'r' c))) (quoted_goes c)

-- mode GotQuotes: of three quotes the second is quoted; two are a literal
abbrev pub quotes_goes : Lists → (c : ℕ) → Goes
quotes_goes L c = pick (is 'single' c) (Takes Suffix) (suffix_goes L c)

-- mode WantsQuote: without the quote the literal is broken
abbrev pub wants_goes : (c : ℕ) → Goes
wants_goes c = pick (is 'single' c) (Takes Suffix) (Drops Broken)

-- mode InLifetime: a quote at its end belongs to it
abbrev pub life_goes : Lists → (c : ℕ) → Goes
life_goes L c = pick (going L c) (Takes InLifetime) (pick (is 'single' c) (Takes (Start false)) (Ends false))

-- mode QuotedName: a quote makes it a literal, # after r a raw lifetime
abbrev pub quoted_name_goes : Lists → (letter : Bool) (c : ℕ) → Goes
quoted_name_goes L r c = pick (is 'single' c) (Takes Suffix) (pick (and r (is '#' c)) (Takes GotNameHash) (life_goes L c))

-- mode InQuotes: a slash breaks the literal, and so does a newline with no quote after it
abbrev pub in_quotes_goes : (c : ℕ) → Goes
in_quotes_goes c = pick (is 'single' c) (Takes Suffix) (pick (is '/' c) (Drops Broken) (pick (is 'newline' c) (Takes WantsQuote) (pick (is '\' c) (Takes QuotesEscape) (Takes InQuotes))))
