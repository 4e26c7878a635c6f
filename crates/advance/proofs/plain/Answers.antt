-- `advance::plain` meets its contract. At a single point the chain of tests computes; a digit and any other character by what the match leaves (Arms).
use mathlib.Core.Logic.{inl, inr}
use Rattle.advance.proofs.Arms.{digit_in, other_in}
use Rattle.classes.specs.Identifiers.{letter, id_start}
use Rattle.classes.specs.Whitespace.{is_whitespace}
use Rattle.eaters.specs.Eat.{choose}
use mathlib.Core.Path.{refl}
use Rattle.token.specs.declared.TokenKind.TheVariants as kind
use Rattle.advance.proofs.Arms.{slash_in, r_in, k_in, b_in, c_in, hash_in, quote_in, string_in, symbol_in}
use borrow.Author.Rules.{rules}
use native.Mathlib.Omega.{arith}
use Rattle.advance.proofs.plain.Goals.{in_default-via-then-c-lt33, in_default-via-else-c-lt33+else-c-lt58}
use Rattle.advance.proofs.plain.Goals as goal

pub returns-in-47 : goal.returns-in-47
returns-in-47 c = search slash_in

pub returns-in-114 : goal.returns-in-114
returns-in-114 c = search r_in

pub returns-in-107 : goal.returns-in-107
returns-in-107 c = search k_in

pub returns-in-98 : goal.returns-in-98
returns-in-98 c = search b_in

pub returns-in-99 : goal.returns-in-99
returns-in-99 c = search c_in

pub returns-in-35 : goal.returns-in-35
returns-in-35 c = search hash_in

pub returns-in-59 : goal.returns-in-59
unfolding choose is_whitespace id_start letter
returns-in-59 c = search (symbol_in 0x3B kind.Semi (λ L cs. refl))

pub returns-in-44 : goal.returns-in-44
unfolding choose is_whitespace id_start letter
returns-in-44 c = search (symbol_in 0x2C kind.Comma (λ L cs. refl))

pub returns-in-46 : goal.returns-in-46
unfolding choose is_whitespace id_start letter
returns-in-46 c = search (symbol_in 0x2E kind.Dot (λ L cs. refl))

pub returns-in-40 : goal.returns-in-40
unfolding choose is_whitespace id_start letter
returns-in-40 c = search (symbol_in 0x28 kind.OpenParen (λ L cs. refl))

pub returns-in-41 : goal.returns-in-41
unfolding choose is_whitespace id_start letter
returns-in-41 c = search (symbol_in 0x29 kind.CloseParen (λ L cs. refl))

pub returns-in-123 : goal.returns-in-123
unfolding choose is_whitespace id_start letter
returns-in-123 c = search (symbol_in 0x7B kind.OpenBrace (λ L cs. refl))

pub returns-in-125 : goal.returns-in-125
unfolding choose is_whitespace id_start letter
returns-in-125 c = search (symbol_in 0x7D kind.CloseBrace (λ L cs. refl))

pub returns-in-91 : goal.returns-in-91
unfolding choose is_whitespace id_start letter
returns-in-91 c = search (symbol_in 0x5B kind.OpenBracket (λ L cs. refl))

pub returns-in-93 : goal.returns-in-93
unfolding choose is_whitespace id_start letter
returns-in-93 c = search (symbol_in 0x5D kind.CloseBracket (λ L cs. refl))

pub returns-in-64 : goal.returns-in-64
unfolding choose is_whitespace id_start letter
returns-in-64 c = search (symbol_in 0x40 kind.At (λ L cs. refl))

pub returns-in-126 : goal.returns-in-126
unfolding choose is_whitespace id_start letter
returns-in-126 c = search (symbol_in 0x7E kind.Tilde (λ L cs. refl))

pub returns-in-63 : goal.returns-in-63
unfolding choose is_whitespace id_start letter
returns-in-63 c = search (symbol_in 0x3F kind.Question (λ L cs. refl))

pub returns-in-58 : goal.returns-in-58
unfolding choose is_whitespace id_start letter
returns-in-58 c = search (symbol_in 0x3A kind.Colon (λ L cs. refl))

pub returns-in-36 : goal.returns-in-36
unfolding choose is_whitespace id_start letter
returns-in-36 c = search (symbol_in 0x24 kind.Dollar (λ L cs. refl))

pub returns-in-61 : goal.returns-in-61
unfolding choose is_whitespace id_start letter
returns-in-61 c = search (symbol_in 0x3D kind.Eq (λ L cs. refl))

pub returns-in-33 : goal.returns-in-33
unfolding choose is_whitespace id_start letter
returns-in-33 c = search (symbol_in 0x21 kind.Bang (λ L cs. refl))

pub returns-in-60 : goal.returns-in-60
unfolding choose is_whitespace id_start letter
returns-in-60 c = search (symbol_in 0x3C kind.Lt (λ L cs. refl))

pub returns-in-62 : goal.returns-in-62
unfolding choose is_whitespace id_start letter
returns-in-62 c = search (symbol_in 0x3E kind.Gt (λ L cs. refl))

pub returns-in-45 : goal.returns-in-45
unfolding choose is_whitespace id_start letter
returns-in-45 c = search (symbol_in 0x2D kind.Minus (λ L cs. refl))

pub returns-in-38 : goal.returns-in-38
unfolding choose is_whitespace id_start letter
returns-in-38 c = search (symbol_in 0x26 kind.And (λ L cs. refl))

pub returns-in-124 : goal.returns-in-124
unfolding choose is_whitespace id_start letter
returns-in-124 c = search (symbol_in 0x7C kind.Or (λ L cs. refl))

pub returns-in-43 : goal.returns-in-43
unfolding choose is_whitespace id_start letter
returns-in-43 c = search (symbol_in 0x2B kind.Plus (λ L cs. refl))

pub returns-in-42 : goal.returns-in-42
unfolding choose is_whitespace id_start letter
returns-in-42 c = search (symbol_in 0x2A kind.Star (λ L cs. refl))

pub returns-in-94 : goal.returns-in-94
unfolding choose is_whitespace id_start letter
returns-in-94 c = search (symbol_in 0x5E kind.Caret (λ L cs. refl))

pub returns-in-37 : goal.returns-in-37
unfolding choose is_whitespace id_start letter
returns-in-37 c = search (symbol_in 0x25 kind.Percent (λ L cs. refl))

pub returns-in-39 : goal.returns-in-39
returns-in-39 c = search quote_in

pub returns-in-34 : goal.returns-in-34
returns-in-34 c = search string_in

pub returns-in-48-to-57 : goal.returns-in-48-to-57
returns-in-48-to-57 c = digit_in _ (search rules) (omega arith) (omega arith) c.number_literal.ensures

pub returns-in_default : goal.returns-in_default
returns-in_default c = other_in _ (search rules) (elim c.in_default.branch [ in_default-via-then-c-lt33 w ↦ inl (omega arith) | in_default-via-else-c-lt33+else-c-lt58 w ↦ inr (omega arith) ]) c.other.ensures
