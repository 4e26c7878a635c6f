-- What one pass over the records keeps of a list, and how a pair more changes it.
use Rattle.std.specs.Prelude.{ℕ, Option, None, Some, Err, zero, suc, ◌+◌, ◌/◌, ◌≤◌, List, [], ◌∷◌, ltb, length}
use Rattle.basics.specs.Choice.{pick}
use Rattle.refusal.specs.declared.Bad.TheVariants as bad
use Rattle.refusal.specs.Verdict.{Verdict, fine}
use Rattle.ranges.specs.Rules.{good_pair, flaw_from}
use Rattle.token.specs.Lists.{Lists}
use Rattle.lists_file.specs.declared.Entry.{Entry}
use Rattle.lists_in.specs.declared.Tally.{Tally}
use Rattle.lists_in.specs.declared.Each.{Each}

-- the last number of a list; p where it has none
abbrev pub last_of : ℕ → List ℕ → ℕ
last_of p [] = p
last_of p (x ∷ l) = last_of x l

abbrev pub tally : (numbers previous : ℕ) → Option ℕ → Tally
tally numbers previous flaw = record { numbers = numbers; previous = previous; flaw = flaw }

abbrev pub tally_of : List ℕ → Tally
tally_of l = tally (length l) (last_of 0 l) (flaw_from 0 0 l)

abbrev pub tallies : Tally → Tally → Tally → Each Tally
tallies a b c = record { starts = a; continues = b; emoji = c }

abbrev pub tallies_of : Lists → Each Tally
tallies_of L = tallies (tally_of L.starts) (tally_of L.continues) (tally_of L.emoji)

-- a pair more, of this index: where the list breaks a rule first
abbrev pub flaw_on : Option ℕ → (previous index low high : ℕ) → Option ℕ
flaw_on None previous index low high = pick (good_pair previous low high) None (Some index)
flaw_on (Some k) previous index low high = Some k

abbrev pub tally_on : Tally → (low high : ℕ) → Tally
tally_on t low high = tally (t.numbers + 2) high (flaw_on t.flaw t.previous (t.numbers / 2) low high)

-- a record more, in its list
abbrev pub list_on : (which low high : ℕ) → Each Tally → Each Tally
list_on zero low high t = tallies (tally_on t.starts low high) t.continues t.emoji
list_on (suc zero) low high t = tallies t.starts (tally_on t.continues low high) t.emoji
list_on (suc (suc n)) low high t = tallies t.starts t.continues (tally_on t.emoji low high)

abbrev pub tallies_on : Each Tally → Entry → Each Tally
tallies_on t e = list_on e.which e.low e.high t

-- refusal 3 for list number `which`: the count first, then the pairs
abbrev pub verdict_of : (limit which : ℕ) → Tally → Verdict
verdict_of limit which t = elim (pick (ltb limit (t.numbers / 2)) (Some limit) t.flaw) [ None ↦ fine | Some k ↦ Err (bad.List which k) ]

-- two numbers more can be counted
abbrev pub RoomForTwo : Tally → Type 0
RoomForTwo t = t.numbers + 2 ≤ 18446744073709551615

pub record RoomForPair (t : Each Tally) : Type 0 where
  pub starts : RoomForTwo t.starts
  pub continues : RoomForTwo t.continues
  pub emoji : RoomForTwo t.emoji
