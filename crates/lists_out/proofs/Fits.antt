-- Lists that the check lets through fit the file: whole pairs of numbers that have at most six digits.
use Prim.Native.Nat.{ℕ, suc}
use mathlib.Core.Path.{◌≡◌}
use mathlib.Core.List.{List, [], ◌∷◌}
use native.Mathlib.Omega.{arith}
use Rattle.std.specs.Prelude.{None}
use Rattle.refusal.specs.Verdict.{Verdict, fine}
use Rattle.refusal.specs.Order.{first}
use Rattle.refusal.proofs.Orders.{first_1, first_2}
use Rattle.ranges.specs.Rules.{good_pair, flaw_from, list_verdict}
use Rattle.ranges.proofs.Pairs.{pair_true}
use Rattle.ranges.proofs.Laws.{right, fine_good}
use Rattle.token.specs.Lists.{Lists}
use Rattle.lists_file.specs.File.{Pairs, no_pair, pair, ListsFit}
use Rattle.lists_file.specs.Verdicts.{lists_verdict}

pairs_from : (k p : ℕ) (l : List ℕ) → flaw_from k p l ≡ None → Pairs l
unfolding flaw_from
pairs_from k p [] e = no_pair
pairs_from k p (low ∷ []) e = absurd (cc)
pairs_from k p (low ∷ high ∷ l) e =
    let b = right (good_pair p low high) (flaw_from (suc k) high l) k e in
    let f = pair_true p low high b.0 in
    pair {low = low} {high = high} (omega arith) (omega arith) (pairs_from (suc k) high l b.1)

-- each list is let through
pub record AllFine (limit : ℕ) (L : Lists) : Type 0 where
  pub starts : list_verdict limit 0 L.starts ≡ fine
  pub continues : list_verdict limit 1 L.continues ≡ fine
  pub emoji : list_verdict limit 2 L.emoji ≡ fine

pub all_fine : (limit : ℕ) (L : Lists) → lists_verdict limit L ≡ fine → AllFine limit L
all_fine limit L e =
    let a : Verdict = list_verdict limit 0 L.starts in
    let b : Verdict = list_verdict limit 1 L.continues in
    let c : Verdict = list_verdict limit 2 L.emoji in
    let m : first b c ≡ fine = first_2 a (first b c) e in
    record { starts = first_1 a (first b c) e; continues = first_1 b c m; emoji = first_2 b c m }

pub fine_fits : (limit : ℕ) (L : Lists) → lists_verdict limit L ≡ fine → ListsFit L
fine_fits limit L e =
    let f : AllFine limit L = all_fine limit L e in
    record {
      starts = pairs_from 0 0 L.starts (fine_good limit 0 L.starts f.starts).pairs;
      continues = pairs_from 0 0 L.continues (fine_good limit 1 L.continues f.continues).pairs;
      emoji = pairs_from 0 0 L.emoji (fine_good limit 2 L.emoji f.emoji).pairs;
    }
