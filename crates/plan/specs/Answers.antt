-- What the list call answers, and what the lent records hold then (document 01, "When the build says no"). `limit` is the most pairs of a list.
use Rattle.std.specs.Prelude.{ℕ, Bool, List, ◌++◌, leb, length, drop, Result, Ok, Err}
use Rattle.basics.specs.Choice.{pick}
use Rattle.refusal.specs.declared.Bad.{Bad}
use Rattle.refusal.specs.declared.Numbers.{Numbers}
use Rattle.refusal.specs.Numbers.{numbers, bad_numbers}
use Rattle.refusal.specs.Order.{refused_or}
use Rattle.token.specs.declared.Token.{Token}
use Rattle.token.specs.Lists.{Lists}
use Rattle.token.specs.Tokens.{records}
use Rattle.lexer.specs.Answers.{token_verdict}
use Rattle.plan.specs.declared.ListRefusal.{ListRefusal}
use Rattle.plan.specs.declared.ListRefusal.TheVariants.{Slots, Shared}

-- the number of tokens, or a refusal
abbrev pub ListAnswer : Type 0
ListAnswer = Result ℕ ListRefusal

-- one that calls share
abbrev pub shared : Bad → ListAnswer
shared bad = Err (Shared bad)

-- 5: fewer slots than tokens; else the number of tokens
abbrev pub roomed : (needed slots : ℕ) → ListAnswer
roomed needed slots = pick (leb needed slots) (Ok needed) (Err (Slots needed))

-- THE ANSWER: 1, 3, 2 as the one-token call has them, then 5
abbrev pub list_answer : (limit : ℕ) (s : List ℕ) → Lists → (on : Bool) (slots : ℕ) → ListAnswer
list_answer limit s L on slots = refused_or shared (token_verdict limit s L) (roomed (length (records L on s)) slots)

-- THE CONTENTS: on success the records of the text, and past them what was there; a refusal changes nothing
abbrev pub listed : ListAnswer → (tokens old : List Token) → List Token
listed (Ok n) tokens old = tokens ++ drop n old
listed (Err refusal) tokens old = old

-- by number: done is 0, with the number of tokens; 5, with the number of tokens needed
abbrev pub list_numbers : ListAnswer → Numbers
list_numbers (Ok n) = numbers 0 n 0
list_numbers (Err (Slots n)) = numbers 5 n 0
list_numbers (Err (Shared bad)) = bad_numbers bad
