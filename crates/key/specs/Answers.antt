-- What the key call answers, and what the lent buffer holds then (document 01, "When the build says no" and "The key"; document 02, W3 and W6). The
-- key is that of the replaced text, in which each CR LF is LF. `limit` is the most pairs of a list.
use Rattle.std.specs.Prelude.{ℕ, ◌≡◌, List, ◌++◌, leb, length, drop, Result, Ok, Err}
use Rattle.basics.specs.Choice.{pick}
use Rattle.eaters.specs.Find.{Place, at, nowhere}
use Rattle.refusal.specs.declared.Bad.{Bad}
use Rattle.refusal.specs.declared.Numbers.{Numbers}
use Rattle.refusal.specs.Numbers.{numbers, bad_numbers}
use Rattle.refusal.specs.Order.{refused_or}
use Rattle.token.specs.Lists.{Lists}
use Rattle.lexer.specs.Answers.{token_verdict}
use Rattle.line_ends.specs.LineEnds.{replaced, double_return}
use Rattle.marks.specs.Marks.{hidden_mark}
use Rattle.canon.specs.Keyable.{broken_at}
use Rattle.canon.specs.Key.{key_of}
use Rattle.key.specs.declared.KeyRefusal.{KeyRefusal}
use Rattle.key.specs.declared.KeyRefusal.TheVariants.{DoubleReturn, HiddenMark, Broken, Room, Shared}

-- the key's bytes, or a refusal
abbrev pub KeyAnswer : Type 0
KeyAnswer = Result ℕ KeyRefusal

-- one that calls share
abbrev pub shared : Bad → KeyAnswer
shared bad = Err (Shared bad)

-- 7: fewer bytes than the key has; else the key's bytes
abbrev pub roomed : (needed room : ℕ) → KeyAnswer
roomed needed room = pick (leb needed room) (Ok needed) (Err (Room needed))

-- 6: a broken token, with the start of the first, in the replaced text
abbrev pub unbroken : Place → KeyAnswer → KeyAnswer
unbroken (at start) answer = Err (Broken start)
unbroken nowhere answer = answer

-- 11: a hidden direction mark, with the place of the first, in the text as lent
abbrev pub unmarked : Place → KeyAnswer → KeyAnswer
unmarked (at place) answer = Err (HiddenMark place)
unmarked nowhere answer = answer

-- 10: CR CR LF, with the place of the first, in the text as lent
abbrev pub undoubled : Place → KeyAnswer → KeyAnswer
undoubled (at place) answer = Err (DoubleReturn place)
undoubled nowhere answer = answer

-- after the checks: 6, then 7
abbrev pub checked_answer : (s : List ℕ) → Lists → (room : ℕ) → KeyAnswer
checked_answer s L room = unbroken (broken_at L (replaced s)) (roomed (length (key_of L (replaced s))) room)

-- THE ANSWER: 1, 3, 2 as the one-token call has them, then 10, then 11, then 6, then 7
abbrev pub key_answer : (limit : ℕ) (s : List ℕ) → Lists → (room : ℕ) → KeyAnswer
key_answer limit s L room = refused_or shared (token_verdict limit s L) (undoubled (double_return s) (unmarked (hidden_mark s) (checked_answer s L room)))

-- THE CONTENTS: on success the key, and past it what was there; a refusal changes nothing
abbrev pub buffer_after : KeyAnswer → (key before : List ℕ) → List ℕ
buffer_after (Ok n) key before = key ++ drop n before
buffer_after (Err refusal) key before = before

-- the promise after the checks: the answer r, and the buffer from before to after
pub record CheckedKeying (s : List ℕ) (L : Lists) (before after : List ℕ) (r : KeyAnswer) : Type 0 where
  pub answer : r ≡ checked_answer s L (length before)
  pub holds : after ≡ buffer_after r (key_of L (replaced s)) before

-- THE PROMISE of the key call: the answer r, and the buffer from before to after
pub record Keying (limit : ℕ) (s : List ℕ) (L : Lists) (before after : List ℕ) (r : KeyAnswer) : Type 0 where
  pub answer : r ≡ key_answer limit s L (length before)
  pub holds : after ≡ buffer_after r (key_of L (replaced s)) before

-- by number: done is 0, with the key's bytes; 10, with the place of the first CR CR LF; 11, with that of the first hidden mark; 6, with the start of the first broken token; 7, with the bytes needed
abbrev pub key_numbers : KeyAnswer → Numbers
key_numbers (Ok n) = numbers 0 n 0
key_numbers (Err (DoubleReturn place)) = numbers 10 place 0
key_numbers (Err (HiddenMark place)) = numbers 11 place 0
key_numbers (Err (Broken start)) = numbers 6 start 0
key_numbers (Err (Room n)) = numbers 7 n 0
key_numbers (Err (Shared bad)) = bad_numbers bad
