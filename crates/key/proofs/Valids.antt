-- THE KEY CALL ANSWERS WITH THE KEY wherever document 01 says that there is one: for a valid text without CR CR LF and hidden marks, valid lists, no broken token, and room.
use Rattle.std.specs.Prelude.{Ok}
use Prim.Native.Nat.{ℕ, ◌≤◌}
use mathlib.Core.Path.{◌≡◌, subst, ◌∙◌}
use mathlib.Core.List.{List}
use lib.ListN.{length}
use borrow.Author.Tests.{le-leb, le-ltb, eq-eqb}
use native.Mathlib.Omega.{arith}
use Rattle.refusal.specs.Verdict.{Verdict, fine}
use Rattle.refusal.specs.Order.{first, lists_in_order}
use Rattle.refusal.proofs.Orders.{first_1, first_2}
use Rattle.text.specs.Chars.{chars, size}
use Rattle.text.specs.Verdicts.{too_long, utf8_verdict}
use Rattle.ranges.specs.Rules.{list_verdict}
use Rattle.ranges.proofs.Laws.{fine_good, fine_count, good_fine}
use Rattle.token.specs.Lists.{Lists}
use Rattle.lexer.specs.Answers.{token_verdict}
use Rattle.text.proofs.Verdicts.{fine_long, fine_utf8}
use Rattle.eaters.specs.Find.{nowhere}
use Rattle.line_ends.specs.LineEnds.{replaced, double_return}
use Rattle.line_ends.proofs.Replaced.{replaced_few}
use Rattle.marks.specs.Marks.{hidden_mark}
use Rattle.canon.specs.Keyable.{Keyable}
use Rattle.canon.specs.Key.{key_of}
use Rattle.canon.proofs.Short.{key_short}
use Rattle.key.specs.Answers.{KeyAnswer}
use Rattle.key.specs.Answers.{key_answer, Keying}
use Rattle.key.specs.Valid.{Allowed, Valid, HasKey}
use Rattle.key.proofs.Fits.{Done, done}

-- VALID is what the checks let through
allowed_of : (limit which : ℕ) (l : List ℕ) → list_verdict limit which l ≡ fine → Allowed limit l
allowed_of limit which l e = record { count = fine_count limit which l e; rules = fine_good limit which l e }

allowed_fine : (limit which : ℕ) (l : List ℕ) → Allowed limit l → list_verdict limit which l ≡ fine
allowed_fine limit which l a = good_fine limit which l a.rules a.count

module _ (limit : ℕ) (s : List ℕ) (L : Lists) where
  pub valid_fine : Valid limit s L → token_verdict limit s L ≡ fine
  unfolding token_verdict too_long utf8_verdict
  valid_fine v =
      rw (le-ltb 4294967295 (length s) v.fits, allowed_fine limit 0 L.starts v.starts, allowed_fine limit 1 L.continues v.continues, allowed_fine limit 2 L.emoji v.emoji, eq-eqb (size (chars s)) (length s) v.well)

  pub fine_valid : token_verdict limit s L ≡ fine → Valid limit s L
  unfolding token_verdict
  fine_valid e =
      let a : Verdict = list_verdict limit 0 L.starts in
      let b : Verdict = list_verdict limit 1 L.continues in
      let c : Verdict = list_verdict limit 2 L.emoji in
      let after : first (lists_in_order a b c) (utf8_verdict s) ≡ fine = first_2 (too_long s) _ e in
      let lists : lists_in_order a b c ≡ fine = first_1 _ (utf8_verdict s) after in
      let two : first b c ≡ fine = first_2 a _ lists in
      record {
        fits = fine_long s (first_1 (too_long s) _ e);
        well = fine_utf8 s (first_2 (lists_in_order a b c) _ after);
        starts = allowed_of limit 0 L.starts (first_1 a _ lists);
        continues = allowed_of limit 1 L.continues (first_1 b c two);
        emoji = allowed_of limit 2 L.emoji (first_2 b c two);
      }

  -- the answer then
  pub keyed_answer : {room : ℕ} → token_verdict limit s L ≡ fine → double_return s ≡ nowhere → hidden_mark s ≡ nowhere → Keyable L (replaced s) → length (key_of L (replaced s)) ≤ room → key_answer limit s L room ≡ Ok (length (key_of L (replaced s)))
  keyed_answer {room} f d m u h = rw (f, d, m, u, le-leb (length (key_of L (replaced s))) room h)

-- A BUFFER AS LONG AS THE TEXT always has room
pub room_enough : (L : Lists) (s before : List ℕ) → length s ≤ length before → length (key_of L (replaced s)) ≤ length before
room_enough L s before h = omega (arith, key_short L (replaced s), replaced_few s)

-- WHAT THE CALL ANSWERS then
module _ {limit : ℕ} {s : List ℕ} {L : Lists} {before after : List ℕ} {r : KeyAnswer} (h : HasKey limit s L before) (k : Keying limit s L before after r) where
  pub answers_keyed : r ≡ Ok (length (key_of L (replaced s)))
  answers_keyed = k.answer ∙ keyed_answer limit s L (valid_fine limit s L h.valid) h.undoubled h.unmarked h.whole h.room

  pub keyed : Keying limit s L before after (Ok (length (key_of L (replaced s))))
  keyed = subst (λ (x : KeyAnswer). Keying limit s L before after x) answers_keyed k

-- AND ONLY THEN does it answer so
pub keyed_only : {limit : ℕ} {s : List ℕ} {L : Lists} {before after : List ℕ} {n : ℕ} → Keying limit s L before after (Ok n) → HasKey limit s L before
keyed_only {limit} {s} {L} {before} {after} {n} k =
    let d : Done limit s L (length before) n = done k.answer in
    record { valid = fine_valid limit s L d.fine; undoubled = d.undoubled; unmarked = d.unmarked; whole = d.keyable; room = omega (arith, d.long, d.fits) }
