-- What the two calls on a file of lists say, by number, and what the lent runs and the buffer hold then.
use Rattle.std.specs.Prelude.{ℕ, ◌≡◌, Bool, List, leb, length, Ok, Err}
use Rattle.basics.specs.Choice.{pick, and}
use Rattle.refusal.specs.declared.Numbers.{Numbers}
use Rattle.refusal.specs.Numbers.{numbers}
use Rattle.token.specs.Lists.{Lists}
use Rattle.lists_file.specs.File.{file_of}
use Rattle.lists_file.specs.Lines.{version}
use Rattle.lists_file.specs.Load.{load}
use Rattle.lists_in.specs.declared.Held.{Held}
use Rattle.lists_in.specs.Answers.{ReadAnswer, counts, read_answer, run_after, lists_in, read_numbers}
use Rattle.lists_out.specs.Answers.{write_answer, buffer_after, write_numbers}
use Rattle.exports.specs.declared.Answer.{Answer}
use Rattle.exports.specs.declared.ListsAnswer.{ListsAnswer}
use Rattle.exports.specs.Answers.{answer_of}

-- refused: every number past the third is 0
abbrev pub no_lists : Numbers → ListsAnswer
no_lists n = record { number = n.number; beside = n.beside; second = n.second; major = 0; minor = 0; update = 0; starts = 0; continues = 0; emoji = 0 }

-- done: the version, and how many numbers each run now holds
abbrev pub held_out : Numbers → Held → ListsAnswer
held_out n h =
    record { number = n.number; beside = n.beside; second = n.second; major = h.version.major; minor = h.version.minor; update = h.version.update; starts = h.starts; continues = h.continues; emoji = h.emoji }

abbrev pub lists_from : Numbers → ReadAnswer → ListsAnswer
lists_from n (Ok held) = held_out n held
lists_from n (Err refusal) = no_lists n

abbrev pub lists_out : ReadAnswer → ListsAnswer
lists_out answer = lists_from (read_numbers answer) answer

-- THE PROMISE of the reader
pub record ListsOut (limit : ℕ) (file a b c starts continues emoji : List ℕ) (r : ListsAnswer) : Type 0 where
  pub answer : r ≡ lists_out (read_answer limit file (counts (length a) (length b) (length c)))
  pub starts_hold : starts ≡ run_after (read_answer limit file (counts (length a) (length b) (length c))) (lists_in (load file)).starts a
  pub continues_hold : continues ≡ run_after (read_answer limit file (counts (length a) (length b) (length c))) (lists_in (load file)).continues b
  pub emoji_hold : emoji ≡ run_after (read_answer limit file (counts (length a) (length b) (length c))) (lists_in (load file)).emoji c

-- the numbers of a version are at most 65,535
abbrev pub is_version : (major minor update : ℕ) → Bool
is_version major minor update = and (leb major 65535) (and (leb minor 65535) (leb update 65535))

-- THE PROMISE of the writer. A version that no file can have is refusal 9 with line 0: the first line would be bad.
pub record FileOut (limit major minor update : ℕ) (L : Lists) (before after : List ℕ) (r : Answer) : Type 0 where
  pub answer : r ≡ answer_of (pick (is_version major minor update) (write_numbers (write_answer limit (version major minor update) L (length before))) (numbers 9 0 0))
  pub holds : after ≡ pick (is_version major minor update) (buffer_after (write_answer limit (version major minor update) L (length before)) (file_of (version major minor update) L) before) before
