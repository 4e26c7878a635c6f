-- FROM THE PROMISES of the two calls alone: what the writer puts out reads back as it was, and what the reader accepts is what the writer puts out for it.
use Prim.Native.Nat.{ℕ, ◌≤◌}
use mathlib.Core.Path.{◌≡◌, refl, sym, ap, ◌∙◌}
use mathlib.Core.Bool.{Bool, true, false}
use mathlib.Core.List.{List, ◌++◌}
use borrow.Author.Tests.{le-leb, le-ltb}
use lib.Dec.{leb}
use lib.ListN.{length, take, drop}
use lib.Seq.{take_at}
use Rattle.basics.specs.Choice.{pick}
use Rattle.std.specs.Prelude.{Ok, Err}
use Rattle.refusal.specs.Verdict.{Verdict, fine}
use Rattle.refusal.specs.Order.{refused_or}
use Rattle.token.specs.Lists.{Lists, lent}
use Rattle.lists_file.specs.declared.Version.{Version}
use Rattle.lists_file.specs.File.{file_of, VersionFits}
use Rattle.lists_file.specs.Load.{loaded, load}
use Rattle.lists_file.specs.Verdicts.{lists_verdict}
use Rattle.lists_file.proofs.RoundTrip.{reads_back, holds}
use Rattle.lists_in.specs.declared.Held.{Held}
use Rattle.lists_in.specs.Answers as read
use Rattle.lists_in.specs.Answers.{ReadAnswer, counts, counts_of, held_of, roomed_for, read_of, run_after, lists_in, Reading}
use Rattle.lists_in.proofs.Calls.{Done, read_done_told}
use Rattle.lists_out.specs.declared.WriteRefusal.TheVariants.{Room}
use Rattle.lists_out.specs.Answers.{WriteAnswer, shared, roomed, buffer_after, Writing}
use Rattle.lists_out.proofs.Fits.{fine_fits}

-- WHAT IS WRITTEN: the lists keep the rules, and the file is in the first bytes
pub record Filed (limit : ℕ) (v : Version) (L : Lists) (after : List ℕ) (n : ℕ) : Type 0 where
  pub rules : lists_verdict limit L ≡ fine
  pub bytes : n ≡ length (file_of v L)
  pub file : take n after ≡ file_of v L

pub filed : {limit : ℕ} {v : Version} {L : Lists} {before after : List ℕ} {n : ℕ} → Writing limit v L before after (Ok n) → Filed limit v L after n
filed {limit} {v} {L} {before} {after} {n} w = by_verdict (lists_verdict limit L) refl w.answer
  where
    by_room : lists_verdict limit L ≡ fine → (t : Bool) → Ok n ≡ pick t (Ok (length (file_of v L))) (Err (Room (length (file_of v L)))) → Filed limit v L after n
    by_room f true e =
        let b : n ≡ length (file_of v L) = cc in
        record { rules = f; bytes = b; file = ap (take n) w.holds ∙ take_at (file_of v L) (drop n before) n (sym b) }
    by_room f false e = absurd (cc)

    by_verdict : (x : Verdict) → lists_verdict limit L ≡ x → Ok n ≡ refused_or shared x (roomed (length (file_of v L)) (length before)) → Filed limit v L after n
    by_verdict (Ok tt) f e = by_room f (leb (length (file_of v L)) (length before)) e
    by_verdict (Err bad) f e = absurd (cc)

-- WRITTEN AND READ: with room for each list, the reader loads the version and the lists
pub record ReadBack (v : Version) (L : Lists) (a b c starts continues emoji : List ℕ) (r : ReadAnswer) : Type 0 where
  pub answer : r ≡ Ok (held_of v (counts_of L))
  pub starts_hold : starts ≡ L.starts ++ drop (length L.starts) a
  pub continues_hold : continues ≡ L.continues ++ drop (length L.continues) b
  pub emoji_hold : emoji ≡ L.emoji ++ drop (length L.emoji) c

pub written_read : {limit : ℕ} {v : Version} {L : Lists} {before after : List ℕ} {n : ℕ} {a b c starts continues emoji : List ℕ} {r : ReadAnswer}
    → VersionFits v → Writing limit v L before after (Ok n) → Reading limit (take n after) a b c starts continues emoji r
    → length L.starts ≤ length a → length L.continues ≤ length b → length L.emoji ≤ length c → ReadBack v L a b c starts continues emoji r
written_read {limit} {v} {L} {after = after} {n = n} {a = a} {b = b} {c = c} {r = r} fits w f x y z =
    let d : Filed limit v L after n = filed w in
    let rooms = counts (length a) (length b) (length c) in
    let s : List ℕ = take n after in
    let l : load s ≡ loaded v L = ap load d.file ∙ reads_back v L fits (fine_fits limit L d.rules) in
    let e : r ≡ Ok (held_of v (counts_of L)) =
    f.answer ∙ ap (read_of limit rooms) l ∙ ap (λ (q : Verdict). refused_or read.shared q (roomed_for v (counts_of L) rooms)) d.rules ∙ rw (le-ltb (length a) (length L.starts) x, le-ltb (length b) (length L.continues) y, le-ltb (length c) (length L.emoji) z) refl in
    let k : lists_in (load s) ≡ L = ap lists_in l in
    record {
      answer = e;
      starts_hold = f.starts_hold ∙ ap (λ (q : ReadAnswer). run_after q (lists_in (load s)).starts a) e ∙ ap (λ (q : Lists). q.starts ++ drop (length q.starts) a) k;
      continues_hold = f.continues_hold ∙ ap (λ (q : ReadAnswer). run_after q (lists_in (load s)).continues b) e ∙ ap (λ (q : Lists). q.continues ++ drop (length q.continues) b) k;
      emoji_hold = f.emoji_hold ∙ ap (λ (q : ReadAnswer). run_after q (lists_in (load s)).emoji c) e ∙ ap (λ (q : Lists). q.emoji ++ drop (length q.emoji) c) k;
    }

-- READ AND WRITTEN: with room for the file, the writer puts out the file for what was loaded
pub record WriteBack (file after : List ℕ) (r : WriteAnswer) : Type 0 where
  pub answer : r ≡ Ok (length file)
  pub same : take (length file) after ≡ file

pub read_written : {limit : ℕ} {file a b c starts continues emoji : List ℕ} {h : Held} {before after : List ℕ} {r : WriteAnswer}
    → Reading limit file a b c starts continues emoji (Ok h)
    → Writing limit h.version (lent (take h.starts starts) (take h.continues continues) (take h.emoji emoji)) before after r
    → length file ≤ length before → WriteBack file after r
read_written {limit} {file} {starts = starts} {continues = continues} {emoji = emoji} {h = h} {before} {after} {r} f w room =
    let d : Done limit file starts continues emoji h = read_done_told f in
    let same : lent (take h.starts starts) (take h.continues continues) (take h.emoji emoji) ≡ d.lists = (λ i. lent (d.starts_are i) (d.continues_are i) (d.emoji_are i)) in
    let u : Writing limit h.version d.lists before after r = rw same at w in
    let e : file ≡ file_of h.version d.lists = (holds file d.loads).same in
    let n : length (file_of h.version d.lists) ≡ length file = ap length (sym e) in
    let x : r ≡ Ok (length file) =
    u.answer ∙ ap (λ (q : Verdict). refused_or shared q (roomed (length (file_of h.version d.lists)) (length before))) d.rules
    ∙ ap (λ (k : ℕ). roomed k (length before)) n ∙ ap (λ (t : Bool). pick t (Ok (length file)) (Err (Room (length file)))) (le-leb (length file) (length before) room) in
    record {
      answer = x;
      same = ap (take (length file)) (u.holds ∙ ap (λ (q : WriteAnswer). buffer_after q (file_of h.version d.lists) before) x) ∙ take_at (file_of h.version d.lists) (drop (length file) before) (length file) n ∙ sym e;
    }
