-- In a comment: what a character does.
use Rattle.std.specs.Prelude.{ℕ, Bool, true, false}
use Rattle.basics.specs.Choice.{pick}
use Rattle.token.specs.Names.{is, 'newline'}
use Rattle.machine.specs.declared.Mode.{Mode}
use Rattle.machine.specs.declared.Mode.TheVariants.{DocLine, PlainLine}
use Rattle.machine.specs.declared.Last.{Last}
use Rattle.machine.specs.Machine.{last_of, in_block}
use Rattle.goes.specs.declared.Goes.{Goes}
use Rattle.goes.specs.declared.Goes.TheVariants.{Takes, Drops, Ends}

-- mode DocLine: a doc comment is written; its newline is no part of it
abbrev pub doc_goes : (c : ℕ) → Goes
doc_goes c = pick (is 'newline' c) (Ends false) (Takes DocLine)

-- mode PlainLine: any other line comment is trivia
abbrev pub plain_goes : (c : ℕ) → Goes
plain_goes c = pick (is 'newline' c) (Ends true) (Drops PlainLine)

-- what the last character of a block comment was, as the machine says it
abbrev pub last_char : ℕ → Last
last_char c = last_of c

-- the mode after a character of a block comment, as the machine says it
abbrev pub block_mode : (doc : Bool) (depth : ℕ) → Last → ℕ → Mode
block_mode doc d l c = in_block doc d l c

-- mode Block: a doc comment is written, any other one is not
abbrev pub block_goes : (doc : Bool) (depth : ℕ) → Last → (c : ℕ) → Goes
block_goes doc d l c = pick doc (Takes (block_mode doc d l c)) (Drops (block_mode doc d l c))
