-- Lifetimes and character literals (000's lifetime_or_char), after the quote.
use Rattle.std.specs.Prelude.{ℕ, ◌+◌, Bool, true, false}
use Rattle.basics.specs.Choice.{or}
use Rattle.eaters.specs.Eat.{Eater, give, eat, while, ◌>>=◌, ◌>>◌, texted, choose}
use Rattle.eaters.specs.Look.{if_at, if_two, if_eat}
use Rattle.text.specs.Chars.{size}
use Rattle.classes.specs.Identifiers.{digit}
use Rattle.token.specs.declared.LiteralKind.TheVariants.{Char}
use Rattle.token.specs.declared.TokenKind.{TokenKind}
use Rattle.token.specs.declared.TokenKind.TheVariants.{UnknownPrefixLifetime, RawLifetime, Literal, Lifetime}
use Rattle.token.specs.Names.{is, '#', 'single', 'r'}
use Rattle.token.specs.Lists.{Lists, starting, going}
use Rattle.token.specs.Literals.{literal}
use Rattle.token.specs.Quotes.{single_quoted}

-- a character literal
abbrev pub character : Lists → Eater TokenKind
character L = literal L 1 (single_quoted Char)

-- the rest of a name of which `before` bytes are taken, the quote with them: a quote after it makes it a character literal, without a suffix
abbrev pub lifetime_rest : Lists → (numbered : Bool) (before : ℕ) → Eater TokenKind
lifetime_rest L numbered before = do
  t ← while (going L)
  if_eat (is 'single') (give (Literal (Char true) (before + size t + 1)))
      (choose numbered (give (Lifetime true))
      (if_at (is '#') (give UnknownPrefixLifetime) (give (Lifetime false))))

-- a name, from its first character on
abbrev pub lifetime : Lists → (numbered : Bool) → Eater TokenKind
lifetime L numbered = do
  r ← texted (eat 1)
  lifetime_rest L numbered (1 + size r.text)

-- a raw lifetime, from its hash on: the hash, the start of an identifier and what goes on in it
abbrev pub raw_name : Lists → Eater TokenKind
raw_name L = eat 2 >> while (going L) >> give RawLifetime

-- after a quote and an r: a raw lifetime, or the rest of a name
abbrev pub after_quote_r : Lists → Eater TokenKind
after_quote_r L = if_two (is '#') (starting L) (raw_name L) (lifetime_rest L false 2)

-- a digit or the start of an identifier may begin a lifetime
abbrev pub naming : Lists → ℕ → Bool
naming L c = or (starting L c) (digit c)

-- a lifetime, or else what a quote begins otherwise
abbrev pub lifetime_or : Lists → Eater TokenKind → Eater TokenKind
lifetime_or L char =
    if_two (naming L) (is 'single') char
    (if_eat (is 'r') (after_quote_r L)
    (if_at digit (lifetime L true)
    (if_at (starting L) (lifetime L false)
    char)))

abbrev pub lifetime_or_char : Lists → Eater TokenKind
lifetime_or_char L = lifetime_or L (character L)
