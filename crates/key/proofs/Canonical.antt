-- THE KEY IS CANONICAL, said of the call: what it wrote for two texts, what it writes for a key, and how long a key is. `take n after` are the bytes
-- that a call wrote which answered `Ok n`.
use Rattle.std.specs.Prelude.{Ok}
use Prim.Native.Nat.{ℕ, ◌≤◌}
use mathlib.Core.Path.{◌≡◌, sym, ap, subst, ◌∙◌}
use mathlib.Core.Logic.{◌↔◌}
use mathlib.Core.List.{List}
use lib.ListN.{length, take, drop}
use lib.Seq.{take_at}
use native.Mathlib.Omega.{arith}
use Rattle.eaters.specs.Find.{nowhere}
use Rattle.refusal.specs.Verdict.{fine}
use Rattle.text.specs.Chars.{WellFormed}
use Rattle.token.specs.Lists.{Lists}
use Rattle.lexer.specs.Answers.{token_verdict}
use Rattle.line_ends.specs.LineEnds.{replaced, double_return}
use Rattle.line_ends.proofs.Replaced.{replaced_few}
use Rattle.canon.specs.Keyable.{broken_at}
use Rattle.canon.specs.Meaning.{meaning}
use Rattle.canon.specs.Key.{key_of}
use Rattle.canon.specs.Fair.{Fair}
use Rattle.canon.proofs.Short.{key_short}
use Rattle.canon.proofs.Canon.{key_well, key_again, again_keyable, canonical}
use Rattle.marks.specs.Marks.{hidden_mark}
use Rattle.marks.proofs.Keys.{key_unmarked}
use Rattle.machine.proofs.LineEnds.{key_replaced, key_undoubled}
use Rattle.key.specs.Answers.{KeyAnswer}
use Rattle.key.specs.Answers.{Keying}
use Rattle.key.specs.Valid.{Valid}
use Rattle.key.proofs.Fits.{Done, done}
use Rattle.key.proofs.Valids.{fine_valid, valid_fine, keyed_answer}

fair_of : (limit : ℕ) (s : List ℕ) (L : Lists) → token_verdict limit s L ≡ fine → Fair L
fair_of limit s L e = (fine_valid limit s L e).starts.rules

-- ONE CALL that answered `Ok n`
module _ {limit : ℕ} {s : List ℕ} {L : Lists} {before after : List ℕ} {n : ℕ} (k : Keying limit s L before after (Ok n)) where
  told : Done limit s L (length before) n
  told = done k.answer

  -- it wrote the key
  pub wrote_key : take n after ≡ key_of L (replaced s)
  wrote_key = ap (take n) k.holds ∙ take_at (key_of L (replaced s)) (drop n before) n (sym told.long)

  -- NO KEY IS LONGER than its text
  pub wrote_short : n ≤ length s
  wrote_short = omega (arith, told.long, key_short L (replaced s), replaced_few s)

  -- A KEY IS WELL-FORMED UTF-8
  pub wrote_well : WellFormed (take n after)
  wrote_well = subst (λ (l : List ℕ). WellFormed l) (sym wrote_key) (key_well L (replaced s))

-- TWO CALLS with the same lists: they wrote the same bytes exactly when the two replaced texts mean the same, that is, when their meaningful tokens agree in
-- order, kind, suffix start and bytes, and trivia stands in the same gaps
pub same_keys : {limit : ℕ} {s t : List ℕ} {L : Lists} {before after before' after' : List ℕ} {n m : ℕ} → Keying limit s L before after (Ok n) → Keying limit t L before' after' (Ok m)
    → (take n after ≡ take m after') ↔ (meaning L (replaced s) ≡ meaning L (replaced t))
same_keys {limit} {s} {t} {L} j k =
    let c = canonical L (fair_of limit s L (told j).fine) (replaced s) (replaced t) (told j).keyable (told k).keyable in
    ((λ e. c.0 (sym (wrote_key j) ∙ e ∙ wrote_key k)), (λ e. wrote_key j ∙ c.1 e ∙ sym (wrote_key k)))

-- a text that the checks let through, no longer and well-formed: they let it through as well
fine_again : (limit : ℕ) (s t : List ℕ) (L : Lists) → token_verdict limit s L ≡ fine → length t ≤ length s → WellFormed t → token_verdict limit t L ≡ fine
fine_again limit s t L e l w =
    let v : Valid limit s L = fine_valid limit s L e in
    valid_fine limit t L (record { fits = omega arith; well = w; starts = v.starts; continues = v.continues; emoji = v.emoji })

-- A KEY KEYED AGAIN, with room for it, is accepted and comes out as it is
module _ {limit : ℕ} {s : List ℕ} {L : Lists} {before after before' after' : List ℕ} {n : ℕ} {r : KeyAnswer} (j : Keying limit s L before after (Ok n)) (k : Keying limit (take n after) L before' after' r) (h : n ≤ length before') where
  -- a key has no CR LF, so that it is its own replaced text
  own : replaced (take n after) ≡ take n after
  own = ap replaced (wrote_key j) ∙ key_replaced L s (told j).undoubled (told j).keyable ∙ sym (wrote_key j)

  same_key : key_of L (replaced (take n after)) ≡ take n after
  same_key = ap (key_of L) (own ∙ wrote_key j) ∙ key_again L (fair_of limit s L (told j).fine) (replaced s) (told j).keyable ∙ sym (wrote_key j)

  as_long : length (take n after) ≡ n
  as_long = ap length (wrote_key j) ∙ sym (told j).long

  pub again_keyed : r ≡ Ok n
  again_keyed =
      let f : token_verdict limit (take n after) L ≡ fine = fine_again limit s (take n after) L (told j).fine (omega (arith, as_long, wrote_short j)) (wrote_well j) in
      let d : double_return (take n after) ≡ nowhere = ap double_return (wrote_key j) ∙ key_undoubled L s (told j).undoubled (told j).keyable in
      let m : hidden_mark (take n after) ≡ nowhere = ap hidden_mark (wrote_key j) ∙ key_unmarked L s (fine_valid limit s L (told j).fine).well (told j).unmarked in
      let b : broken_at L (replaced (take n after)) ≡ nowhere = ap (broken_at L) (own ∙ wrote_key j) ∙ again_keyable L (fair_of limit s L (told j).fine) (replaced s) (told j).keyable in
      let l : length (key_of L (replaced (take n after))) ≡ n = ap length same_key ∙ as_long in
      k.answer ∙ keyed_answer limit (take n after) L f d m b (omega arith) ∙ ap Ok l

  pub again_same : take n after' ≡ take n after
  again_same = wrote_key (subst (λ (x : KeyAnswer). Keying limit (take n after) L before' after' x) again_keyed k) ∙ same_key
