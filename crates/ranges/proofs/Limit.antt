-- THE LIMIT of the pairs of a list (document 01, "What the build takes and what it leaves", as document 02, W7, amends it).
use Prim.Native.Nat.{ℕ, ◌/◌, ◌≤◌}
use mathlib.Core.Path.{◌≡◌}
use mathlib.Core.List.{List}
use lib.ListN.{length}
use native.Mathlib.Omega.{arith}
use Rattle.refusal.specs.Verdict.{Verdict, fine}
use Rattle.ranges.specs.Rules.{list_verdict}
use Rattle.ranges.proofs.Laws.{fine_count}
use Rattle.ranges.proofs.Turns.{turns, turns_left, no_more_turns}
use Rattle.ranges.proofs.check_list.Reads as check

abbrev pub limit : ℕ
limit = 8192

-- Contracts read it from the constant of the code; this is the promise of the check with the number in it. With another number in the code it fails.
pub limit_holds : (κs : _) (a : _) (r : Verdict) (x : _) → check.Post κs a r x → r ≡ list_verdict limit a.0 a.1.0.now
limit_holds κs a r x p = p

-- So the search in a list that the check lets through takes no more turns than in one of so many pairs: this is the measure of its loop where the loop
-- begins, and each turn takes one or more off it.
pub limit_turns : (which : ℕ) (l : List ℕ) → list_verdict limit which l ≡ fine → turns_left 0 (length l / 2) ≤ turns limit
limit_turns which l e = no_more_turns (omega (arith, fine_count limit which l e))
