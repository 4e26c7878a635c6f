-- WHAT CAN BE READ NOW is well-formed; what waits is at most three bytes; and when more bytes come, it is as if all had come at once.
use Rattle.std.specs.Prelude.{None, Some}
use Prim.Native.Nat.{ℕ, zero, suc, ◌+◌, ◌-◌, ◌≤◌, ◌<◌}
use mathlib.Core.Path.{◌≡◌, refl, sym, ap, subst, ◌∙◌}
use mathlib.Core.Bool.{Bool, true, false}
use mathlib.Core.List.{List, [], ◌∷◌, ◌++◌, append_assoc}
use mathlib.Core.Logic.{inl, inr, ⊎_elim}
use lib.ListN.{length, take, drop, get_or, length-append, length-drop, take-append-drop}
use lib.Seq.{get_or-append-add, length-take-le, drop-cons, take_all}
use lib.Dec.{eqb}
use borrow.Author.Tests.{eq-eqb, ne_eqb, lt-ltb}
use native.Mathlib.Omega.{arith}
use Rattle.basics.specs.Choice.{or}
use Rattle.refusal.specs.declared.Cause.{Cause}
use Rattle.refusal.specs.declared.Cause.TheVariants.{Start, Cut, Follow}
use Rattle.text.specs.declared.Decoded.TheVariants.{Ill}
use Rattle.text.specs.Utf8.{decoded}
use Rattle.text.specs.Chars.{chars, size, WellFormed}
use Rattle.text.specs.Position.{starts_here}
use Rattle.text.specs.Verdicts.{cause_of}
use Rattle.text.proofs.Texts.{size_chars}
use Rattle.text.proofs.Stops.{first_ill}
use Rattle.token.specs.Names.{'carriage_return'}
use Rattle.waits.specs.declared.Ready.{Ready}
use Rattle.waits.specs.Stops.{Stop}
use Rattle.waits.specs.Waits.{last_returns, stopped_at, ready_by, ready_of}
use Rattle.waits.specs.Shifts.{ill_from}
use Rattle.waits.proofs.Returns.{few_returns, last_other}
use Rattle.waits.proofs.Ends.{Returned, none, one, two, last_returned, last_drop, last_append, last_lone}
use Rattle.waits.proofs.Cuts.{cut_bytes, cut_some}
use Rattle.waits.proofs.Apart.{goes_on, Apart}
use Rattle.waits.proofs.Joins.{size_more, well_append, ill_append, decoded_more, well_or_not, verdict_well, verdict_ill, front_well, ill_chars, ill_decoded, ill_still, take_well}

-- BY CASES: the bytes are UTF-8, or they are not
pub ready_well : (s : List ℕ) → WellFormed s → ready_of s ≡ record { bytes = length s - length (last_returns s); ill = None }
unfolding ready_of
ready_well s w = ap (ready_by (length s - length (last_returns s))) (verdict_well s w)

pub ready_ill : (s : List ℕ) {k : Cause} → (WellFormed s → ⊥) → decoded (drop (size (chars s)) s) ≡ Ill k → ready_of s ≡ stopped_at (size (chars s)) k
unfolding ready_of
ready_ill s n e = ap (ready_by (length s - length (last_returns s))) (verdict_ill s n e)

-- a view of them
pub data Waiting (s : List ℕ) (r : Ready) : Type 0 where
  fine : WellFormed s → r.bytes ≡ length s - length (last_returns s) → r.ill ≡ None → Waiting s r
  cut : (WellFormed s → ⊥) → decoded (drop (size (chars s)) s) ≡ Ill Cut → r.bytes ≡ size (chars s) → r.ill ≡ None → Waiting s r
  bad : (k : Cause) → (WellFormed s → ⊥) → decoded (drop (size (chars s)) s) ≡ Ill k → (k ≡ Cut → ⊥) → r.bytes ≡ size (chars s) → r.ill ≡ Some ((size (chars s)), k) → Waiting s r

pub waiting : (s : List ℕ) → Waiting s (ready_of s)
waiting s = ⊎_elim (λ w. fine w (ap (λ (r : Ready). r.bytes) (ready_well s w)) (ap (λ (r : Ready). r.ill) (ready_well s w))) (λ n. go n (cause_of (decoded (drop (size (chars s)) s))) (first_ill s n)) (well_or_not s)
  where
    go : (WellFormed s → ⊥) → (k : Cause) → decoded (drop (size (chars s)) s) ≡ Ill k → Waiting s (ready_of s)
    go n Start e = bad Start n e (λ q. let z : ◌≡◌ {A = ℕ} 0 1 = cc in omega arith) (ap (λ (r : Ready). r.bytes) (ready_ill s n e)) (ap (λ (r : Ready). r.ill) (ready_ill s n e))
    go n Cut e = cut n e (ap (λ (r : Ready). r.bytes) (ready_ill s n e)) (ap (λ (r : Ready). r.ill) (ready_ill s n e))
    go n Follow e = bad Follow n e (λ q. let z : ◌≡◌ {A = ℕ} 0 1 = cc in omega arith) (ap (λ (r : Ready). r.bytes) (ready_ill s n e)) (ap (λ (r : Ready). r.ill) (ready_ill s n e))

no_place : {p : ℕ} {k : Cause} {A : Type 0} → ◌≡◌ {A = Stop} (Some (p, k)) None → A
no_place e = let z : ◌≡◌ {A = ℕ} 0 1 = cc in absurd (omega arith)

-- WITHIN THE BYTES
pub ready_within : (s : List ℕ) → (ready_of s).bytes ≤ length s
ready_within s = go (waiting s)
  where
    go : Waiting s (ready_of s) → (ready_of s).bytes ≤ length s
    go (fine w e i) = omega (arith, e)
    go (cut n d e i) = omega (arith, e, size_chars s)
    go (bad k n d c e i) = omega (arith, e, size_chars s)

-- before CRs stands the start of one, or the end
at_return : (s : List ℕ) (n : ℕ) (k : List ℕ) → drop n s ≡ 'carriage_return' ∷ k → starts_here s n ≡ true
unfolding starts_here
at_return s n k e =
    let h : n < length s = omega (arith, length-drop n s, ap length e) in
    let b : get_or s n 0 ≡ 13 = ap (λ (l : List ℕ). get_or l 0 0) (sym (drop-cons s n 0 h) ∙ e) in
    rw (lt-ltb n (length s) h, b) (go (eqb n (length s)))
  where
    go : (t : Bool) → or t true ≡ true
    go true = refl
    go false = refl

before_returns : (s : List ℕ) (n : ℕ) {k : List ℕ} → n ≤ length s → drop n s ≡ k → Returned k → starts_here s n ≡ true
before_returns s n h e none = unfold starts_here in let z : n ≡ length s = omega (arith, h, length-drop n s, ap length e) in rw (eq-eqb n (length s) z)
before_returns s n h e one = at_return s n [] e
before_returns s n h e two = at_return s n ('carriage_return' ∷ []) e

-- WHAT CAN BE READ NOW IS WELL-FORMED
pub part_well : (s : List ℕ) → WellFormed (take (ready_of s).bytes s)
part_well s = go (waiting s)
  where
    go : Waiting s (ready_of s) → WellFormed (take (ready_of s).bytes s)
    go (fine w e i) =
        let d : drop (ready_of s).bytes s ≡ last_returns s = ap (λ (n : ℕ). drop n s) e ∙ last_drop s in
        take_well s (ready_of s).bytes w (before_returns s (ready_of s).bytes (omega (arith, e)) d (last_returned s))
    go (cut n d e i) = rw e (front_well s)
    go (bad k n d c e i) = rw e (front_well s)

-- AT MOST THREE BYTES WAIT
few_of : {k : List ℕ} → Returned k → length k ≤ 3
few_of none = omega arith
few_of one = omega arith
few_of two = omega arith

pub kept_few : (s : List ℕ) → (ready_of s).ill ≡ None → length (drop (ready_of s).bytes s) ≤ 3
kept_few s h = go (waiting s)
  where
    go : Waiting s (ready_of s) → length (drop (ready_of s).bytes s) ≤ 3
    go (fine w e i) = omega (arith, few_of (last_returned s), ap length (ap (λ (n : ℕ). drop n s) e ∙ last_drop s))
    go (cut n d e i) = omega (arith, (cut_bytes (drop (size (chars s)) s) d).few, ap (λ (m : ℕ). length (drop m s)) e)
    go (bad k n d c e i) = no_place (sym i ∙ h)

-- NO LINE END STANDS ACROSS, whatever comes and however much of it is read
quiet : (b m : ℕ) (t : List ℕ) → 0x80 ≤ b → goes_on (take m (b ∷ t)) ≡ false
quiet b zero t h = refl
quiet b (suc m) t h = rw (ne_eqb b 10 (λ e. omega (arith, e, h)), ne_eqb b 13 (λ e. omega (arith, e, h)))

quiet_cut : (k : List ℕ) (m : ℕ) (t : List ℕ) → decoded k ≡ Ill Cut → goes_on (take m (k ++ t)) ≡ false
quiet_cut [] m t e = absurd (omega (arith, cut_some [] e))
quiet_cut (b ∷ k) m t e = quiet b m (k ++ t) ((cut_bytes (b ∷ k) e).high 0 (omega arith))

quiet_two : (m : ℕ) (t : List ℕ) → goes_on (take m ('carriage_return' ∷ 'carriage_return' ∷ t)) ≡ false
quiet_two zero t = refl
quiet_two (suc zero) t = refl
quiet_two (suc (suc m)) t = refl

-- the part before the last CRs
before_last : (s : List ℕ) (n : ℕ) {k : List ℕ} → n ≤ length s → last_returns s ≡ k → drop n s ≡ k → Returned k → (m : ℕ) (t : List ℕ) → Apart (take n s) (take m (k ++ t))
before_last s n h l e none m t = inl (ap last_returns (take_all n s (omega (arith, length-drop n s, ap length e))) ∙ l)
before_last s n h l e one m t = inl (last_lone (take n s) (ap (λ (x : List ℕ). length (last_returns x)) (ap (λ (k : List ℕ). take n s ++ k) (sym e) ∙ take-append-drop n s) ∙ ap length l))
before_last s n h l e two m t = inr (quiet_two m t)

pub parts_apart : (s : List ℕ) → (ready_of s).ill ≡ None → (m : ℕ) (t : List ℕ) → Apart (take (ready_of s).bytes s) (take m (drop (ready_of s).bytes s ++ t))
parts_apart s h m t = go (waiting s)
  where
    go : Waiting s (ready_of s) → Apart (take (ready_of s).bytes s) (take m (drop (ready_of s).bytes s ++ t))
    go (fine w e i) =
        let d : drop (ready_of s).bytes s ≡ last_returns s = ap (λ (n : ℕ). drop n s) e ∙ last_drop s in
        subst (λ (k : List ℕ). Apart (take (ready_of s).bytes s) (take m (k ++ t))) (sym d) (before_last s (ready_of s).bytes (ready_within s) refl d (last_returned s) m t)
    go (cut n d e i) = rw e (inr (quiet_cut (drop (size (chars s)) s) m t d))
    go (bad k n d c e i) = no_place (sym i ∙ h)

-- MORE BYTES: the same place further
abbrev pub ready_from : (base : ℕ) → Ready → Ready
ready_from base r = record { bytes = base + r.bytes; ill = ill_from base r.ill }

stopped_from : (base place : ℕ) (k : Cause) → stopped_at (base + place) k ≡ ready_from base (stopped_at place k)
stopped_from base place Start = refl
stopped_from base place Cut = refl
stopped_from base place Follow = refl

ready_append : (s t : List ℕ) → WellFormed s → last_returns (s ++ t) ≡ last_returns t → ready_of (s ++ t) ≡ ready_from (length s) (ready_of t)
ready_append s t w l = ⊎_elim whole broken (well_or_not t)
  where
    whole : WellFormed t → ready_of (s ++ t) ≡ ready_from (length s) (ready_of t)
    whole v =
        let z : length (s ++ t) - length (last_returns (s ++ t)) ≡ length s + (length t - length (last_returns t)) = omega (arith, length-append s t, ap length l, few_returns t) in
        ready_well (s ++ t) (well_append s t w v) ∙ ap (λ (n : ℕ). record { bytes = n; ill = None }) z ∙ ap (ready_from (length s)) (sym (ready_well t v))

    broken : (WellFormed t → ⊥) → ready_of (s ++ t) ≡ ready_from (length s) (ready_of t)
    broken n =
        let k : Cause = cause_of (decoded (drop (size (chars t)) t)) in
        let e : decoded (drop (size (chars t)) t) ≡ Ill k = first_ill t n in
        ready_ill (s ++ t) (ill_append s t w n) (decoded_more s t w ∙ e) ∙ ap (λ (p : ℕ). stopped_at p k) (size_more s t w) ∙ stopped_from (length s) (size (chars t)) k ∙ ap (ready_from (length s)) (sym (ready_ill t n e))

-- no CR ends what is cut off
no_length : (s : List ℕ) → 0 ≡ length s → s ≡ []
no_length [] e = refl
no_length (a ∷ s) e = absurd (omega (arith, e))

last_of_cut : (s k : List ℕ) → decoded k ≡ Ill Cut → last_returns (s ++ k) ≡ []
last_of_cut s k e =
    let some : 1 ≤ length k = cut_some k e in
    let z : length (s ++ k) - 1 ≡ length s + (length k - 1) = omega (arith, some, length-append s k) in
    let b : get_or (s ++ k) (length (s ++ k) - 1) 0 ≡ get_or k (length k - 1) 0 = rw z (get_or-append-add s k (length k - 1) 0) in
    let h : 0x80 ≤ get_or k (length k - 1) 0 = (cut_bytes k e).high (length k - 1) (omega (arith, some)) in
    no_length (last_returns (s ++ k)) (last_other (s ++ k) (λ q. omega (arith, q, some, length-append s k)) (λ q. omega (arith, q, b, h)))

pub ready_more : (s t : List ℕ) → (ready_of s).ill ≡ None → ready_of (s ++ t) ≡ ready_from (ready_of s).bytes (ready_of (drop (ready_of s).bytes s ++ t))
ready_more s t h =
    ap ready_of parts ∙ ready_append X (k ++ t) (part_well s) (ap last_returns (sym parts) ∙ go (waiting s)) ∙ ap (λ (n : ℕ). ready_from n (ready_of (k ++ t))) (length-take-le (ready_of s).bytes s (ready_within s))
  where
    X : List ℕ
    X = take (ready_of s).bytes s

    k : List ℕ
    k = drop (ready_of s).bytes s

    whole : X ++ k ≡ s
    whole = take-append-drop (ready_of s).bytes s

    parts : s ++ t ≡ X ++ (k ++ t)
    parts = ap (λ (x : List ℕ). x ++ t) (sym whole) ∙ append_assoc X k t

    go : Waiting s (ready_of s) → last_returns (s ++ t) ≡ last_returns (k ++ t)
    go (fine w e i) = last_append s t ∙ ap (λ (x : List ℕ). last_returns (x ++ t)) (sym (ap (λ (n : ℕ). drop n s) e ∙ last_drop s))
    go (cut n d e i) =
        let q : decoded k ≡ Ill Cut = ap (λ (m : ℕ). decoded (drop m s)) e ∙ d in
        last_append s t ∙ ap (λ (x : List ℕ). last_returns (x ++ t)) (ap last_returns (sym whole) ∙ last_of_cut X k q ∙ sym (last_of_cut [] k q)) ∙ sym (last_append k t)
    go (bad c n d b e i) = no_place (sym i ∙ h)

-- AN ILL-FORMED SEQUENCE STAYS
pub ready_stays : (s t : List ℕ) {place : ℕ} {k : Cause} → (ready_of s).ill ≡ Some (place, k) → ready_of (s ++ t) ≡ ready_of s
ready_stays s t {place} {k} h = go (waiting s)
  where
    go : Waiting s (ready_of s) → ready_of (s ++ t) ≡ ready_of s
    go (fine w e i) = no_place (sym h ∙ i)
    go (cut n d e i) = no_place (sym h ∙ i)
    go (bad c n d b e i) = ready_ill (s ++ t) (ill_still s t d b n) (ill_decoded s t d b) ∙ ap (λ (p : ℕ). stopped_at p c) (ap size (ill_chars s t d b)) ∙ sym (ready_ill s n d)
