-- The call that goes on from a position: the tokens from there on, as many as a lent run has slots for, what is answered and what the run holds then.
use Rattle.std.specs.Prelude.{ℕ, zero, suc, ◌*◌, ◌/◌, ◌≡◌, Bool, false, List, ◌++◌, length, take, drop}
use Rattle.basics.specs.Choice.{pick}
use Rattle.refusal.specs.declared.Numbers.{Numbers}
use Rattle.refusal.specs.Numbers.{numbers, bad_numbers}
use Rattle.refusal.specs.Order.{refused_or}
use Rattle.text.specs.Position.{on_boundary}
use Rattle.token.specs.declared.Token.{Token}
use Rattle.token.specs.Lists.{Lists}
use Rattle.lexer.specs.declared.Scan.{Scan}
use Rattle.lexer.specs.Scans.{records_from}
use Rattle.lexer.specs.Steps.{before_of, next_of}
use Rattle.lexer.specs.Answers.{token_verdict}
use Rattle.slots.specs.Numbers.{width, numbers_of}
use Rattle.exports.specs.declared.RunAnswer.{RunAnswer}

-- the tokens: the first of those from the position on
abbrev pub first_tokens : Lists → (s : List ℕ) (at : ℕ) (on : Bool) (slots : ℕ) → List Token
first_tokens L s at on slots = take slots (records_from L s at on)

-- the scan n steps past a scan
abbrev pub stepped : Lists → (s : List ℕ) (n : ℕ) → Scan → Scan
stepped L s zero c = c
stepped L s (suc n) c = stepped L s n (next_of L s c)

-- done: how many tokens, the position past the last of them, and whether frontmatter is on there
abbrev pub ran_out : (tokens : ℕ) → Scan → RunAnswer
ran_out tokens x = record { number = 0; beside = tokens; second = x.next; tokens = tokens; next = x.next; on = x.on }

-- refused: every number past the third is 0
abbrev pub no_run : Numbers → RunAnswer
no_run n = record { number = n.number; beside = n.beside; second = n.second; tokens = 0; next = 0; on = false }

-- tokens from a position on are given
abbrev pub ran_over : Lists → (s : List ℕ) (at : ℕ) (on : Bool) → List Token → RunAnswer
ran_over L s at on ts = ran_out (length ts) (stepped L s (length ts) (before_of s at on))

-- a run with the numbers of tokens, and past them what was there
abbrev pub written : List Token → (before : List ℕ) → List ℕ
written ts before = numbers_of ts ++ drop (width * length ts) before

-- 1, 3, 2 and 4 as the one-token call has them, else what is done
abbrev pub at_boundary : {A : Type 0} → (limit : ℕ) (s : List ℕ) → Lists → (at : ℕ) (refused : Numbers → A) (done : A) → A
at_boundary limit s L at refused done = refused_or (λ bad. refused (bad_numbers bad)) (token_verdict limit s L) (pick (on_boundary s at) done (refused (numbers 4 at 0)))

-- THE PROMISE of the call, `width` numbers being a slot: the answer, and the run from before to after. A refusal changes nothing.
pub record RunOut (limit : ℕ) (s : List ℕ) (L : Lists) (at : ℕ) (on : Bool) (before after : List ℕ) (r : RunAnswer) : Type 0 where
  pub answer : r ≡ at_boundary limit s L at no_run (ran_over L s at on (first_tokens L s at on (length before / width)))
  pub holds : after ≡ at_boundary limit s L at (λ n. before) (written (first_tokens L s at on (length before / width)) before)
