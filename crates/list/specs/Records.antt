-- The list call over a lent run of records, and over 64 records that start equal.
use Rattle.std.specs.Prelude.{ℕ, Bool, List, ◌≡◌, length, replicate}
use Rattle.token.specs.declared.Token.{Token}
use Rattle.token.specs.Lists.{Lists}
use Rattle.token.specs.Tokens.{records}
use Rattle.plan.specs.Answers.{ListAnswer, list_answer, listed}
use Rattle.list.specs.declared.Records as declared

-- THE LIST CALL: the answer, and what the lent records hold at last
abbrev pub Tokenized : (limit : ℕ) (s : List ℕ) → Lists → (on : Bool) (old : List Token) → ListAnswer → (new : List Token) → Type 0
Tokenized limit s L on old answer new = (answer ≡ list_answer limit s L on (length old)) × (new ≡ listed answer (records L on s) old)

-- the answer, and the records as they are then
abbrev pub records_of : (limit : ℕ) (s : List ℕ) → Lists → (on : Bool) (blank : Token) → declared.Records
records_of limit s L on blank = record { answer = list_answer limit s L on 64; tokens = listed (list_answer limit s L on 64) (records L on s) (replicate 64 blank) }
