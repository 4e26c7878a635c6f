-- Document 01, "Nothing left open": two answers that the promise allows for the same arguments are the same answer, with the same records. And what
-- an answer says of the records.
use Rattle.std.specs.Prelude.{Ok, Err}
use Prim.Native.Nat.{ℕ}
use mathlib.Core.Path.{◌≡◌, refl, sym, ap, ◌∙◌}
use mathlib.Core.Bool.{Bool, true, false}
use mathlib.Core.List.{List}
use lib.Dec.{leb}
use lib.ListN.{length, take, drop, get_or, replicate, length-append, length-drop}
use borrow.Author.Tests.{leb-true}
use native.Mathlib.Omega.{arith}
use lib.Seq.{take_at, drop_at}
use Rattle.basics.specs.Choice.{pick}
use Rattle.refusal.specs.declared.Bad.{Bad}
use Rattle.refusal.specs.Verdict.{Verdict}
use Rattle.refusal.specs.Order.{refused_or}
use Rattle.token.specs.declared.Token.{Token}
use Rattle.token.specs.Lists.{Lists}
use Rattle.token.specs.Tokens.{records}
use Rattle.lexer.specs.Answers.{token_verdict}
use Rattle.plan.specs.declared.ListRefusal.TheVariants.{Slots, Shared}
use Rattle.plan.specs.Answers.{ListAnswer, shared, listed}
use Rattle.list.specs.declared.Records.{Records}
use Rattle.list.specs.Records.{Tokenized, records_of}
use Rattle.list.proofs.tokenize_64.Reads as tokenize_64

module _ (limit : ℕ) (s : List ℕ) (L : Lists) (on : Bool) (old : List Token) where
  -- the number of tokens
  abbrev total : ℕ
  total = length (records L on s)

  -- ONE ANSWER, and one list of records
  pub one_list : (r q : ListAnswer) (new other : List Token) → Tokenized limit s L on old r new → Tokenized limit s L on old q other → (r ≡ q) × (new ≡ other)
  one_list r q new other p e =
      let same : r ≡ q = p.0 ∙ sym e.0 in
      (same, p.1 ∙ ap (λ (x : ListAnswer). listed x (records L on s) old) same ∙ sym e.1)

  -- the tokens that an answer counts
  abbrev counted : ListAnswer → (none : ℕ) → ℕ
  counted (Ok n) none = n
  counted (Err (Slots n)) none = n
  counted (Err (Shared bad)) none = none

  counts : (v : Verdict) (t : Bool) (k : ℕ) → counted (refused_or shared v (pick t (Ok k) (Err (Slots k)))) k ≡ k
  counts (Ok tt) true k = refl
  counts (Ok tt) false k = refl
  counts (Err bad) t k = refl

  counted_all : {r : ListAnswer} {new : List Token} → Tokenized limit s L on old r new → counted r total ≡ total
  counted_all p = ap (λ (x : ListAnswer). counted x total) p.0 ∙ counts (token_verdict limit s L) (leb total (length old)) total

  -- as many records as before
  kept : (v : Verdict) (t : Bool) → leb total (length old) ≡ t → length (listed (refused_or shared v (pick t (Ok total) (Err (Slots total)))) (records L on s) old) ≡ length old
  kept (Ok tt) true e = omega (arith, length-append (records L on s) (drop total old), length-drop total old, leb-true total (length old) e)
  kept (Ok tt) false e = refl
  kept (Err bad) t e = refl

  pub same_length : {r : ListAnswer} {new : List Token} → Tokenized limit s L on old r new → length new ≡ length old
  same_length p = ap length p.1 ∙ ap (λ (x : ListAnswer). length (listed x (records L on s) old)) p.0 ∙ kept (token_verdict limit s L) (leb total (length old)) refl

  module _ {n : ℕ} {new : List Token} where
    -- DONE: n is the number of tokens, the first n slots hold the records, and the others keep their values
    module _ (p : Tokenized limit s L on old (Ok n) new) where
      pub listed_all : n ≡ total
      listed_all = counted_all p

      pub listed_first : take n new ≡ records L on s
      listed_first = ap (take n) p.1 ∙ take_at (records L on s) (drop n old) n (sym listed_all)

      pub listed_rest : drop n new ≡ drop n old
      listed_rest = ap (drop n) p.1 ∙ drop_at (records L on s) (drop n old) n (sym listed_all)

    -- REFUSED for want of slots: n is the number of tokens, and nothing is changed
    module _ (p : Tokenized limit s L on old (Err (Slots n)) new) where
      pub slots_needed : n ≡ total
      slots_needed = counted_all p

      pub slots_same : new ≡ old
      slots_same = p.1

  -- REFUSED else: nothing is changed
  pub refused_same : {bad : Bad} {new : List Token} → Tokenized limit s L on old (Err (Shared bad)) new → new ≡ old
  refused_same p = p.1

-- THE CALL OVER 64 RECORDS is the list call over records that start equal
pub records_tokenized : (limit : ℕ) (s : List ℕ) (L : Lists) (on : Bool) (blank : Token) {r : Records} → r ≡ records_of limit s L on blank → Tokenized limit s L on (replicate 64 blank) r.answer r.tokens
records_tokenized limit s L on blank e = rw e (refl, refl)

pub records_length : (limit : ℕ) (s : List ℕ) (L : Lists) (on : Bool) (blank : Token) {r : Records} → r ≡ records_of limit s L on blank → length r.tokens ≡ 64
records_length limit s L on blank e = same_length limit s L on (replicate 64 blank) (records_tokenized limit s L on blank e)

-- ONE ANSWER of the call over 64 records
pub one_records : (κs : _) (a : _) (r q : Records) (x y : _) → tokenize_64.Post κs a r x → tokenize_64.Post κs a q y → r ≡ q
one_records κs a r q x y p e = p ∙ sym e

-- and of the record at an index: the promise of `get` as its contract has it
pub one_record : (ts : List Token) (i : ℕ) (none : Token) {r q : Token} → r ≡ get_or ts i none → q ≡ get_or ts i none → r ≡ q
one_record ts i none p e = p ∙ sym e
