-- Tokens of one character, and the prefix of a guarded string (000's one-symbol arms).
use Rattle.std.specs.Prelude.{ℕ, List, [], ◌∷◌, Bool, false, eqb}
use Rattle.basics.specs.Choice.{pick, or}
use Rattle.eaters.specs.Eat.{Eater, give}
use Rattle.eaters.specs.Look.{if_eat}
use Rattle.token.specs.declared.TokenKind.{TokenKind}
use Rattle.token.specs.declared.TokenKind.TheVariants.{GuardedStrPrefix, Semi, Comma, Dot, OpenParen, CloseParen, OpenBrace, CloseBrace, OpenBracket, CloseBracket, At, Pound, Tilde, Question, Colon, Dollar, Eq, Bang, Lt, Gt, Minus, And, Or, Plus, Star, Caret, Percent}
use Rattle.token.specs.Names.{is, 'double', '#'}

-- a character, and the kind of token that it is alone
pub record Symbol : Type 0 where
  pub code : ℕ
  pub kind : TokenKind

abbrev pub symbol : ℕ → TokenKind → Symbol
symbol c k = record { code = c; kind = k }

-- in the order of 000
abbrev pub symbols : List Symbol
symbols =
    symbol 0x3B Semi ∷  -- ;
    symbol 0x2C Comma ∷  -- ,
    symbol 0x2E Dot ∷  -- .
    symbol 0x28 OpenParen ∷  -- (
    symbol 0x29 CloseParen ∷  -- )
    symbol 0x7B OpenBrace ∷  -- {
    symbol 0x7D CloseBrace ∷  -- }
    symbol 0x5B OpenBracket ∷  -- [
    symbol 0x5D CloseBracket ∷  -- ]
    symbol 0x40 At ∷  -- @
    symbol 0x23 Pound ∷  -- #
    symbol 0x7E Tilde ∷  -- ~
    symbol 0x3F Question ∷  -- ?
    symbol 0x3A Colon ∷  -- :
    symbol 0x24 Dollar ∷  -- $
    symbol 0x3D Eq ∷  -- =
    symbol 0x21 Bang ∷  -- !
    symbol 0x3C Lt ∷  -- <
    symbol 0x3E Gt ∷  -- >
    symbol 0x2D Minus ∷  -- -
    symbol 0x26 And ∷  -- &
    symbol 0x7C Or ∷  -- |
    symbol 0x2B Plus ∷  -- +
    symbol 0x2A Star ∷  -- *
    symbol 0x5E Caret ∷  -- ^
    symbol 0x25 Percent ∷  -- %
    []

-- c is one of them, and which
abbrev pub is_symbol : List Symbol → ℕ → Bool
is_symbol [] c = false
is_symbol (s ∷ l) c = or (eqb c s.code) (is_symbol l c)

abbrev pub symbol_kind : List Symbol → (otherwise : TokenKind) → ℕ → TokenKind
symbol_kind [] k c = k
symbol_kind (s ∷ l) k c = pick (eqb c s.code) s.kind (symbol_kind l k c)

-- a hash or a double quote
abbrev pub hash_or_quote : ℕ → Bool
hash_or_quote c = or (is '#' c) (is 'double' c)

-- after a hash: ## and #" are one token
abbrev pub pound : Eater TokenKind
pound = if_eat hash_or_quote (give GuardedStrPrefix) (give Pound)
