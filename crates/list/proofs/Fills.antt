-- The loop that writes records: the tokens of n more scans, from the place i on; from 0 on that is what `fill` promises.
use Rattle.std.specs.Prelude.{Ok, Err}
use mathlib.Core.Bool.{Bool, true, false}
use lib.Dec.{leb}
use Rattle.basics.specs.Choice.{pick}
use Rattle.refusal.specs.Verdict.{Verdict, fine}
use Rattle.refusal.specs.Order.{refused_or}
use Rattle.token.specs.Tokens.{records}
use Rattle.lexer.specs.Answers.{token_verdict}
use Rattle.lexer.proofs.Checks.{fine_checked}
use Rattle.plan.specs.declared.ListRefusal.TheVariants.{Slots}
use Rattle.plan.specs.Answers.{ListAnswer, shared, roomed}
use Rattle.plan.proofs.Counting.{steps_records}
use Rattle.list.specs.Records.{Tokenized}
use Prim.Native.Nat.{ℕ, zero, suc, ◌+◌, ◌-◌, ◌≤◌, ◌<◌}
use mathlib.Core.Path.{◌≡◌, refl, sym, ap, subst, ◌∙◌}
use native.Mathlib.Nat.{not-suc-le-zero, le_of_suc-le-suc}
use native.Mathlib.Omega.{arith}
use mathlib.Core.List.{List, [], ◌∷◌, ◌++◌}
use lib.ListN.{length, set, drop, length-set}
use Rattle.token.specs.declared.Token.{Token}
use Rattle.token.specs.Lists.{Lists}
use Rattle.lexer.specs.declared.Scan.{Scan}
use Rattle.lexer.specs.Ready.{Lined}
use Rattle.lexer.specs.Steps.{start_of, next_of, following}

module _ (L : Lists) (s : List ℕ) where
  abbrev pub filled : ℕ → ℕ → Scan → List Token → List Token
  filled zero i c ts = ts
  filled (suc n) i c ts = filled n (suc i) (next_of L s c) (set ts i (next_of L s c).token)

  filled_suc : (n i : ℕ) (c : Scan) (t : Token) (ts : List Token) → filled n (suc i) c (t ∷ ts) ≡ t ∷ filled n i c ts
  filled_suc zero i c t ts = refl
  filled_suc (suc n) i c t ts = filled_suc n (suc i) (next_of L s c) t (set ts i (next_of L s c).token)

  pub filled_is : (n : ℕ) (c : Scan) (ts : List Token) → n ≤ length ts → filled n 0 c ts ≡ following L s n c ++ drop n ts
  filled_is zero c ts l = refl
  filled_is (suc n) c [] l = absurd (not-suc-le-zero l)
  filled_is (suc n) c (t ∷ ts) l = filled_suc n 0 (next_of L s c) (next_of L s c).token ts ∙ ap {B = List Token} (λ r. (next_of L s c).token ∷ r) (filled_is n (next_of L s c) ts (le_of_suc-le-suc l))

-- what the loop keeps: what is still to be written makes of the records now what all of it makes of the old ones
pub record Filling (L : Lists) (s : List ℕ) (n : ℕ) (first : Scan) (old : List Token) (i : ℕ) (c : Scan) (now : List Token) : Type 0 where
  pub within : i ≤ n
  pub room : length now ≡ length old
  pub rest : filled L s (n - i) i c now ≡ filled L s n 0 first old
  pub lined : Lined s c

pub filling_starts : (L : Lists) (s : List ℕ) (n : ℕ) (c : Scan) (old : List Token) → Lined s c → Filling L s n c old 0 c old
filling_starts L s n c old r =
    let e : n - 0 ≡ n = omega arith in
    record { within = omega arith; room = refl; rest = ap (λ (k : ℕ). filled L s k 0 c old) e; lined = r }

pub filling_on : {L : Lists} {s : List ℕ} {n : ℕ} {first : Scan} {old : List Token} {i : ℕ} {c : Scan} {now : List Token} (d : Scan) → Filling L s n first old i c now → i < n → d ≡ next_of L s c → Lined s d
    → Filling L s n first old (i + 1) d (set now i d.token)
filling_on {L} {s} {n} {first} {old} {i} {c} {now} d f l e r =
    let k : n - i ≡ suc (n - (i + 1)) = omega (arith, l) in
    let j : i + 1 ≡ suc i = omega arith in
    let step : filled L s (n - (i + 1)) (i + 1) (next_of L s c) (set now i (next_of L s c).token) ≡ filled L s n 0 first old =
    ap (λ (m : ℕ). filled L s (n - (i + 1)) m (next_of L s c) (set now i (next_of L s c).token)) j ∙ sym (ap (λ (m : ℕ). filled L s m i c now) k) ∙ f.rest in
    (record { within = omega (arith, l); room = length-set now i d.token ∙ f.room; rest = subst (λ (x : Scan). filled L s (n - (i + 1)) (i + 1) x (set now i x.token) ≡ filled L s n 0 first old) (sym e) step; lined = r })

pub filling_ends : {L : Lists} {s : List ℕ} {n : ℕ} {first : Scan} {old : List Token} {i : ℕ} {c : Scan} {now : List Token} → Filling L s n first old i c now → n ≤ i → n ≤ length old
    → now ≡ following L s n first ++ drop n old
filling_ends {L} {s} {n} {first} {old} {i} {c} {now} f l h =
    let k : n - i ≡ 0 = omega (arith, l) in
    sym (ap (λ (m : ℕ). filled L s m i c now) k) ∙ f.rest ∙ filled_is L s n first old h

-- the tokens that `fitting` counts
abbrev tokens_in : ListAnswer → ℕ → ℕ
tokens_in (Ok n) m = n
tokens_in (Err refusal) m = m

fits_same : (m n slots : ℕ) → Ok n ≡ roomed m slots → n ≡ m
fits_same m n slots e = ap (λ (a : ListAnswer). tokens_in a m) e ∙ go (leb m slots)
  where
    go : (t : Bool) → tokens_in (pick t (Ok m) (Err (Slots m))) m ≡ m
    go true = refl
    go false = refl

-- DONE: the records of the text, and past them what was there
pub written_in : (limit : ℕ) (s : List ℕ) (L : Lists) (on : Bool) (old : List Token) {a : ListAnswer} {n : ℕ} {c : Scan} {new : List Token} → token_verdict limit s L ≡ fine → a ≡ roomed (length (records L on s)) (length old) → a ≡ Ok n
    → c ≡ start_of on → new ≡ following L s n c ++ drop n old → Tokenized limit s L on old (Ok n) new
written_in limit s L on old {a} {n} {c} {new} v e q b w =
    let total = length (records L on s) in
    let m : n ≡ total = fits_same total n (length old) (sym q ∙ e) in (
      sym q ∙ e ∙ sym (ap (λ (u : Verdict). refused_or shared u (roomed total (length old))) v),
      w ∙ ap (λ (x : Scan). following L s n x ++ drop n old) b ∙ ap (λ (k : ℕ). following L s k (start_of on) ++ drop n old) m ∙ ap (λ (l : List Token). l ++ drop n old) (steps_records L s (fine_checked limit s L refl v).well on),
    )
