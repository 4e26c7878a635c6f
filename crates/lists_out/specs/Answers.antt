-- What the writer answers, and what the lent buffer holds then (document 02, W1). `limit` is the most pairs of a list.
use Rattle.std.specs.Prelude.{ℕ, Result, Ok, Err, ◌≡◌, List, ◌++◌, leb, length, drop}
use Rattle.basics.specs.Choice.{pick}
use Rattle.refusal.specs.declared.Bad.{Bad}
use Rattle.refusal.specs.declared.Numbers.{Numbers}
use Rattle.refusal.specs.Numbers.{numbers, bad_numbers}
use Rattle.refusal.specs.Order.{refused_or}
use Rattle.token.specs.Lists.{Lists}
use Rattle.lists_file.specs.declared.Version.{Version}
use Rattle.lists_file.specs.File.{file_of}
use Rattle.lists_file.specs.Verdicts.{lists_verdict}
use Rattle.lists_out.specs.declared.WriteRefusal.{WriteRefusal}
use Rattle.lists_out.specs.declared.WriteRefusal.TheVariants.{Room, Shared}

-- what the writer says: the file's bytes, or why nothing is written
abbrev pub WriteAnswer : Type 0
WriteAnswer = Result ℕ WriteRefusal

-- a refusal that calls share, as this call hands it on
abbrev pub shared : Bad → WriteAnswer
shared bad = Err (Shared bad)

-- 7: fewer bytes than the file has; else the file's bytes
abbrev pub roomed : (needed room : ℕ) → WriteAnswer
roomed needed room = pick (leb needed room) (Ok needed) (Err (Room needed))

-- THE ANSWER: 3 as document 01 has it, then 7
abbrev pub write_answer : (limit : ℕ) → Version → Lists → (room : ℕ) → WriteAnswer
write_answer limit v L room = refused_or shared (lists_verdict limit L) (roomed (length (file_of v L)) room)

-- THE CONTENTS: on success the file, and past it what was there; a refusal changes nothing
abbrev pub buffer_after : WriteAnswer → (file before : List ℕ) → List ℕ
buffer_after (Ok n) file before = file ++ drop n before
buffer_after (Err why) file before = before

-- THE PROMISE of the writer: the answer r, and the buffer from before to after
pub record Writing (limit : ℕ) (v : Version) (L : Lists) (before after : List ℕ) (r : WriteAnswer) : Type 0 where
  pub answer : r ≡ write_answer limit v L (length before)
  pub holds : after ≡ buffer_after r (file_of v L) before

-- by number: done is 0, with the file's bytes; 7, with the bytes needed
abbrev pub write_numbers : WriteAnswer → Numbers
write_numbers (Ok n) = numbers 0 n 0
write_numbers (Err (Room n)) = numbers 7 n 0
write_numbers (Err (Shared bad)) = bad_numbers bad
