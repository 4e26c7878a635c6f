-- What the reader answers, and what the lent runs hold then (document 02, W1). `limit` is the most pairs of a list.
use Rattle.std.specs.Prelude.{ℕ, Result, Ok, Err, ◌≡◌, List, ◌++◌, ltb, length, drop}
use Rattle.basics.specs.Choice.{pick}
use Rattle.refusal.specs.declared.Bad.{Bad}
use Rattle.refusal.specs.declared.Numbers.{Numbers}
use Rattle.refusal.specs.Numbers.{numbers, bad_numbers}
use Rattle.refusal.specs.Order.{lists_in_order, refused_or}
use Rattle.token.specs.Lists.{Lists, none}
use Rattle.lists_file.specs.declared.Version.{Version}
use Rattle.lists_file.specs.Verdicts.{lists_verdict}
use Rattle.lists_file.specs.Load.{Read, loaded, bad_line, load}
use Rattle.lists_in.specs.declared.Each.{Each}
use Rattle.lists_in.specs.declared.Found.{Found}
use Rattle.lists_in.specs.declared.Held.{Held}
use Rattle.lists_in.specs.declared.ReadRefusal.{ReadRefusal}
use Rattle.lists_in.specs.declared.ReadRefusal.TheVariants.{Line, Room, Shared}
use Rattle.lists_in.specs.Tallies.{verdict_of}

-- what the reader says: what is loaded, or why nothing is
abbrev pub ReadAnswer : Type 0
ReadAnswer = Result Held ReadRefusal

-- a refusal that calls share, as this call hands it on
abbrev pub shared : Bad → ReadAnswer
shared bad = Err (Shared bad)

abbrev pub counts : (starts continues emoji : ℕ) → Each ℕ
counts a b c = record { starts = a; continues = b; emoji = c }

-- how many numbers each list has
abbrev pub counts_of : Lists → Each ℕ
counts_of L = counts (length L.starts) (length L.continues) (length L.emoji)

-- loaded: the version, and how many numbers each run now holds
abbrev pub held_of : Version → Each ℕ → Held
held_of v n = record { version = v; starts = n.starts; continues = n.continues; emoji = n.emoji }

-- 7: the first list for which the run has too little room, and the numbers that it needs
abbrev pub roomed_for : Version → (needed rooms : Each ℕ) → ReadAnswer
roomed_for v n rooms =
    pick (ltb rooms.starts n.starts) (Err (Room 0 n.starts))
    (pick (ltb rooms.continues n.continues) (Err (Room 1 n.continues))
    (pick (ltb rooms.emoji n.emoji) (Err (Room 2 n.emoji))
    (Ok (held_of v n))))

-- THE ANSWER: 9 with the first bad line, then 3 on the lists that the file holds, then 7
abbrev pub read_of : (limit : ℕ) → (rooms : Each ℕ) → Read → ReadAnswer
read_of limit rooms (loaded v L) = refused_or shared (lists_verdict limit L) (roomed_for v (counts_of L) rooms)
read_of limit rooms (bad_line index) = Err (Line index)

abbrev pub read_answer : (limit : ℕ) (file : List ℕ) → (rooms : Each ℕ) → ReadAnswer
read_answer limit file rooms = read_of limit rooms (load file)

-- THE CONTENTS of a run, for a list: on success its numbers, and past them what was there; a refusal changes nothing
abbrev pub run_after : ReadAnswer → (list before : List ℕ) → List ℕ
run_after (Ok held) list before = list ++ drop (length list) before
run_after (Err why) list before = before

-- the lists that a file holds; where a line of it is bad, none
abbrev pub lists_in : Read → Lists
lists_in (loaded v L) = L
lists_in (bad_line index) = none

-- THE PROMISE of the reader: the answer r, and the runs from before to after
pub record Reading (limit : ℕ) (file a b c starts continues emoji : List ℕ) (r : ReadAnswer) : Type 0 where
  pub answer : r ≡ read_answer limit file (counts (length a) (length b) (length c))
  pub starts_hold : starts ≡ run_after r (lists_in (load file)).starts a
  pub continues_hold : continues ≡ run_after r (lists_in (load file)).continues b
  pub emoji_hold : emoji ≡ run_after r (lists_in (load file)).emoji c

-- by number: done is 0; 9, with the line; 7, with the list and the numbers it needs; 3, with the list and the pair
abbrev pub read_numbers : ReadAnswer → Numbers
read_numbers (Ok held) = numbers 0 0 0
read_numbers (Err (Line index)) = numbers 9 index 0
read_numbers (Err (Room list needed)) = numbers 7 list needed
read_numbers (Err (Shared bad)) = bad_numbers bad

-- the same of what was found in one pass
abbrev pub judged_of : (limit : ℕ) → Found → (rooms : Each ℕ) → ReadAnswer
judged_of limit f rooms =
    refused_or shared
    (lists_in_order (verdict_of limit 0 f.tallies.starts) (verdict_of limit 1 f.tallies.continues) (verdict_of limit 2 f.tallies.emoji))
    (roomed_for f.version (counts f.tallies.starts.numbers f.tallies.continues.numbers f.tallies.emoji.numbers) rooms)
