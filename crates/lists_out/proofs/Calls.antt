-- What the writer says and leaves, by its cases, in the facts of the code.
use Prim.Native.Nat.{ℕ, ◌+◌, ◌≤◌, ◌<◌}
use mathlib.Core.Path.{◌≡◌, refl, sym, ap, ◌∙◌}
use mathlib.Core.Bool.{Bool}
use mathlib.Core.List.{List, ◌++◌}
use borrow.Author.Tests.{le-leb, lt-leb}
use lib.ListN.{length, drop}
use native.Mathlib.Omega.{arith}
use Rattle.basics.specs.Choice.{pick}
use Rattle.std.specs.Prelude.{Ok, Err}
use Rattle.refusal.specs.Verdict.{Verdict, fine}
use Rattle.refusal.specs.Order.{lists_in_order}
use Rattle.refusal.proofs.Handing as handing
use Rattle.ranges.specs.Rules.{list_verdict}
use Rattle.ranges.proofs.Laws.{fine_count}
use Rattle.ranges.proofs.Limit.{limit}
use Rattle.token.specs.Lists.{lent}
use Rattle.puts.specs.Put.{laid, Put}
use Rattle.lists_file.specs.declared.Version.{Version}
use Rattle.lists_file.specs.File.{file_of}
use Rattle.lists_file.specs.Verdicts.{lists_verdict}
use Rattle.lists_out.specs.declared.WriteRefusal.TheVariants.{Room}
use Rattle.lists_out.specs.Parts.{file_bytes, Short, AllShort}
use Rattle.lists_out.specs.Answers.{shared, roomed, Writing}
use Rattle.lists_out.proofs.Lines.{file_long}
use Rattle.lists_out.proofs.Fits.{AllFine, all_fine}

-- a list that is let through is short
short : (which : ℕ) (l : List ℕ) → list_verdict limit which l ≡ fine → Short l
short which l e = omega (arith, fine_count limit which l e)

-- bytes put at the beginning
put_front : {xs before after : List ℕ} {r : ℕ} → Put xs before 0 after r → after ≡ xs ++ drop r before
unfolding laid
put_front {xs} {before} {after} {r} u =
    let n : 0 + length xs ≡ r = sym u.next in
    u.holds ∙ ap (λ (k : ℕ). xs ++ drop k before) n

-- THE CASES
module _ (v : Version) (s t u before : List ℕ) {a b c w : Verdict} (x : a ≡ list_verdict limit 0 s) (y : b ≡ list_verdict limit 1 t) (z : c ≡ list_verdict limit 2 u) (o : w ≡ lists_in_order a b c) where
  checked : w ≡ lists_verdict limit (lent s t u)
  checked = cc

  module _ (k : w ≡ fine) where
    pub all_short : AllShort (lent s t u)
    all_short =
        let f : AllFine limit (lent s t u) = all_fine limit (lent s t u) (sym checked ∙ k) in
        record { starts = short 0 s f.starts; continues = short 1 t f.continues; emoji = short 2 u f.emoji }

    module _ {n : ℕ} (d : n ≡ file_bytes v (lent s t u)) where
      e : n ≡ length (file_of v (lent s t u))
      e = d ∙ sym (file_long v (lent s t u))

      pub room_in : length before < n → Writing limit v (lent s t u) before before (Err (Room n))
      room_in l = record {
        answer = handing.fine_in shared checked k (sym (ap (λ (q : Bool). pick q (Ok n) (Err (Room n))) (lt-leb n (length before) l)) ∙ ap (λ (m : ℕ). roomed m (length before)) e);
        holds = refl;
      }

      pub written_in : {after : List ℕ} {r : ℕ} → n ≤ length before → Put (file_of v (lent s t u)) before 0 after r → Writing limit v (lent s t u) before after (Ok r)
      written_in {after} {r} l p =
          let f : r ≡ n = omega (arith, e, p.next) in
          record {
            answer = handing.fine_in shared checked k (ap Ok f ∙ sym (ap (λ (q : Bool). pick q (Ok n) (Err (Room n))) (le-leb n (length before) l)) ∙ ap (λ (m : ℕ). roomed m (length before)) e);
            holds = put_front p;
          }
