-- BYTES AND MORE BYTES (document 02, W13): to read them one after the other is to read them at once, from any state on.
use Rattle.std.specs.Prelude.{Option, None, Some}
use Prim.Native.Nat.{ℕ, ◌+◌, ◌-◌}
use mathlib.Core.Path.{◌≡◌, refl, sym, ap, ◌∙◌}
use mathlib.Core.List.{List, [], ◌∷◌, ◌++◌, append_assoc}
use lib.ListN.{length, take, drop, length-append, length-drop, take-append-drop}
use lib.Seq.{take-append-le, take-append-add, drop-append-add, length-take-le}
use native.Mathlib.Omega.{arith}
use Rattle.refusal.specs.declared.Cause.{Cause}
use Rattle.text.specs.Chars.{chars_after, chars}
use Rattle.eaters.specs.Find.{nowhere, find}
use Rattle.token.specs.Lists.{Lists}
use Rattle.line_ends.specs.LineEnds.{replaced, double_return}
use Rattle.marks.specs.Marks.{hidden_mark}
use Rattle.machine.specs.Streams.{Fed}
use Rattle.machine.specs.declared.State.{State}
use Rattle.machine.specs.Pieces.{feed}
use Rattle.waits.specs.Stops.{Stop}
use Rattle.waits.specs.declared.Ready.{Ready}
use Rattle.waits.specs.Waits.{ready_of}
use Rattle.waits.specs.Shifts.{ill_from}
use Rattle.waits.proofs.Apart.{Apart, double_apart}
use Rattle.waits.proofs.Parts.{ready_within, part_well, kept_few, parts_apart, ready_more, ready_stays}
use Rattle.key_state.specs.declared.Kept.{Kept}
use Rattle.key_state.specs.declared.Kept.TheVariants.{Nothing}
use Rattle.key_state.specs.declared.KeyState.{KeyState}
use Rattle.key_state.specs.Kept.{kept_bytes}
use Rattle.key_state.specs.Reads.{base_of, ready_after, kept_after, first_found, read_on}
use Rattle.key_state.proofs.Parts.{and_then, fed_parts, mark_parts, found_parts, found_none, kept_again}

no_more : (x : List ℕ) → x ++ [] ≡ x
no_more [] = refl
no_more (a ∷ x) = ap (λ (l : List ℕ). a ∷ l) (no_more x)

module _ (L : Lists) (m : State) (base : ℕ) (double mark : Option ℕ) where
  -- a state by its parts, and what is read from it on
  abbrev state_at : Kept → (count : ℕ) → Stop → KeyState
  state_at kept count ill = record { machine = m; kept = kept; count = count; ill = ill; double = double; mark = mark }

  -- what is read, by the part that can be read
  abbrev read_by : (n : ℕ) (ill : Stop) (s : List ℕ) → Fed KeyState
  read_by n ill s =
      let fed = feed L m (replaced (chars (take n s))) in
      record {
        out = fed.out;
        state = record {
          machine = fed.state;
          kept = kept_after ill (drop n s);
          count = base + length s;
          ill = ill;
          double = first_found double base (double_return (take n s));
          mark = first_found mark base (hidden_mark (take n s));
        };
      }

-- the two places of an ill-formed sequence
ill_twice : (base n : ℕ) (i : Stop) → ill_from base (ill_from n i) ≡ ill_from (base + n) i
ill_twice base n None = refl
ill_twice base n (Some (p, k)) = ap (λ (q : ℕ). Some (q, k)) (omega arith)

-- MORE BYTES after bytes that are not ill-formed
module _ (L : Lists) (m : State) (base : ℕ) (double mark : Option ℕ) (s t : List ℕ) (h : (ready_of s).ill ≡ None) where
  abbrev n : ℕ
  n = (ready_of s).bytes

  abbrev X : List ℕ
  X = take n s

  abbrev k : List ℕ
  k = drop n s

  abbrev y : List ℕ
  y = k ++ t

  abbrev i : ℕ
  i = (ready_of y).bytes

  abbrev Y : List ℕ
  Y = take i y

  size_X : length X ≡ n
  size_X = length-take-le n s (ready_within s)

  parts : s ++ t ≡ X ++ y
  parts = ap (λ (x : List ℕ). x ++ t) (sym (take-append-drop n s)) ∙ append_assoc X k t

  taken : take (n + i) (s ++ t) ≡ X ++ Y
  taken = ap (take (n + i)) parts ∙ ap (λ (z : ℕ). take (z + i) (X ++ y)) (sym size_X) ∙ take-append-add X y i

  left : drop (n + i) (s ++ t) ≡ drop i y
  left = ap (drop (n + i)) parts ∙ ap (λ (z : ℕ). drop (z + i) (X ++ y)) (sym size_X) ∙ drop-append-add X y i

  apart : Apart X Y
  apart = parts_apart s h i t

  fed : feed L m (replaced (chars (X ++ Y))) ≡ and_then (feed L m (replaced (chars X))) (λ z. feed L z (replaced (chars Y)))
  fed = fed_parts L m X Y (part_well s) (part_well y) apart

  doubles : first_found double base (double_return (X ++ Y)) ≡ first_found (first_found double base (double_return X)) (base + n) (double_return Y)
  doubles = ap (first_found double base) (double_apart X Y apart) ∙ found_parts double base (length X) (double_return X) (double_return Y) ∙ ap (λ (z : ℕ). first_found (first_found double base (double_return X)) (base + z) (double_return Y)) size_X

  marks : first_found mark base (hidden_mark (X ++ Y)) ≡ first_found (first_found mark base (hidden_mark X)) (base + n) (hidden_mark Y)
  marks = ap (first_found mark base) (mark_parts X Y (part_well s)) ∙ found_parts mark base (length X) (hidden_mark X) (hidden_mark Y) ∙ ap (λ (z : ℕ). first_found (first_found mark base (hidden_mark X)) (base + z) (hidden_mark Y)) size_X

  counted : base + length (s ++ t) ≡ base + n + length y
  counted = omega (arith, ap length parts, length-append X y, size_X)

  -- both parts at once
  at_once : read_by L m base double mark (n + i) (ill_from base (ill_from n (ready_of y).ill)) (s ++ t)
      ≡ and_then (read_by L m base double mark n None s) (λ z. read_by L z.machine (base + n) z.double z.mark i (ill_from (base + n) (ready_of y).ill) y)
  at_once =
      ap (λ (q : Stop). read_by L m base double mark (n + i) q (s ++ t)) (ill_twice base n (ready_of y).ill)
      ∙ ap (λ (x : List ℕ). made (feed L m (replaced (chars x))) (drop (n + i) (s ++ t)) (base + length (s ++ t)) (first_found double base (double_return x)) (first_found mark base (hidden_mark x))) taken
      ∙ ap (λ (f : Fed State). made f (drop (n + i) (s ++ t)) (base + length (s ++ t)) (first_found double base (double_return (X ++ Y))) (first_found mark base (hidden_mark (X ++ Y)))) fed
      ∙ ap (λ (d : List ℕ). made both d (base + length (s ++ t)) (first_found double base (double_return (X ++ Y))) (first_found mark base (hidden_mark (X ++ Y)))) left
      ∙ ap (λ (c : ℕ). made both (drop i y) c (first_found double base (double_return (X ++ Y))) (first_found mark base (hidden_mark (X ++ Y)))) counted
      ∙ ap (λ (d : Option ℕ). made both (drop i y) (base + n + length y) d (first_found mark base (hidden_mark (X ++ Y)))) doubles
      ∙ ap (λ (d : Option ℕ). made both (drop i y) (base + n + length y) (first_found (first_found double base (double_return X)) (base + n) (double_return Y)) d) marks
    where
      both : Fed State
      both = and_then (feed L m (replaced (chars X))) (λ z. feed L z (replaced (chars Y)))

      made : Fed State → (rest : List ℕ) (count : ℕ) (double mark : Option ℕ) → Fed KeyState
      made f rest count d e =
          record { out = f.out; state = record { machine = f.state; kept = kept_after (ill_from (base + n) (ready_of y).ill) rest; count = count; ill = ill_from (base + n) (ready_of y).ill; double = d; mark = e } }

-- A STATE BY WHAT IS KNOWN OF IT, where nothing was ill-formed
module _ (L : Lists) (st : KeyState) (base : ℕ) (k t : List ℕ) where
  from_here : st.ill ≡ None → kept_bytes st.kept ≡ k → base_of st ≡ base
      → read_on L st (kept_bytes st.kept ++ t) ≡ read_by L st.machine base st.double st.mark (ready_of (k ++ t)).bytes (ill_from base (ready_of (k ++ t)).ill) (k ++ t)
  from_here e q b =
      ap (λ (x : List ℕ). by st.ill (base_of st) (x ++ t)) q ∙ ap (λ (i : Stop). by i (base_of st) (k ++ t)) e ∙ ap (λ (n : ℕ). by None n (k ++ t)) b
    where
      by : Stop → ℕ → List ℕ → Fed KeyState
      by i n x = let part = ready_after i n x in read_by L st.machine n st.double st.mark part.bytes part.ill x

-- AFTER AN ILL-FORMED SEQUENCE bytes are counted, and nothing else
abbrev counted_on : KeyState → (ill : Stop) (count : ℕ) → KeyState
counted_on st ill count = record { machine = st.machine; kept = Nothing; count = count; ill = ill; double = st.double; mark = st.mark }

no_double_lem : double_return [] ≡ nowhere
unfolding find
no_double_lem = refl

no_mark : hidden_mark [] ≡ nowhere
unfolding chars_after
no_mark = refl

no_chars : chars [] ≡ []
unfolding chars_after
no_chars = refl

module _ (L : Lists) (st : KeyState) (s : List ℕ) {place : ℕ} {c : Cause} (e : st.ill ≡ Some (place, c)) where
  frozen : read_on L st s ≡ record { out = []; state = counted_on st (Some (place, c)) (base_of st + length s) }
  frozen =
      ap (λ (i : Stop). let part = ready_after i (base_of st) s in read_by L st.machine (base_of st) st.double st.mark part.bytes part.ill s) e
      ∙ ap (λ (x : List ℕ). made (feed L st.machine (replaced x)) (first_found st.double (base_of st) (double_return [])) (first_found st.mark (base_of st) (hidden_mark []))) no_chars
      ∙ ap (λ (d : Option ℕ). made (record { out = []; state = st.machine }) d (first_found st.mark (base_of st) (hidden_mark []))) (ap (first_found st.double (base_of st)) no_double_lem ∙ found_none st.double (base_of st))
      ∙ ap (made (record { out = []; state = st.machine }) st.double) (ap (first_found st.mark (base_of st)) no_mark ∙ found_none st.mark (base_of st))
    where
      made : Fed State → Option ℕ → Option ℕ → Fed KeyState
      made f d m = record { out = f.out; state = record { machine = f.state; kept = Nothing; count = base_of st + length s; ill = Some (place, c); double = d; mark = m } }

-- nothing waits then: the bytes that come are counted
frozen_more : (L : Lists) (st : KeyState) (t : List ℕ) {place : ℕ} {c : Cause} → st.ill ≡ Some (place, c) → st.kept ≡ Nothing → read_on L st (kept_bytes st.kept ++ t) ≡ record { out = []; state = counted_on st (Some (place, c)) (st.count + length t) }
frozen_more L st t {place} {c} e q =
    ap (λ (x : Kept). read_on L st (kept_bytes x ++ t)) q ∙ frozen L st t e
    ∙ ap (λ (x : Kept). record { out = []; state = counted_on st (Some (place, c)) (st.count - length (kept_bytes x) + length t) }) q
    ∙ (let z : st.count - 0 + length t ≡ st.count + length t = omega arith in ap (λ (n : ℕ). record { out = []; state = counted_on st (Some (place, c)) n }) z)

-- BYTES AND MORE BYTES
abbrev Joins : Lists → KeyState → (s t : List ℕ) → Type 0
Joins L st s t = read_on L st (s ++ t) ≡ and_then (read_on L st s) (λ z. read_on L z (kept_bytes z.kept ++ t))

-- after an ill-formed sequence
ill_joins : (L : Lists) (st : KeyState) (s t : List ℕ) {place : ℕ} {c : Cause} → st.ill ≡ Some (place, c) → Joins L st s t
ill_joins L st s t {place} {c} e =
    let z : base_of st + length (s ++ t) ≡ base_of st + length s + length t = omega (arith, length-append s t) in
    frozen L st (s ++ t) e ∙ ap (λ (n : ℕ). record { out = []; state = counted_on st (Some (place, c)) n }) z
    ∙ ap (λ (g : Fed KeyState). record { out = [] ++ g.out; state = g.state }) (sym (frozen_more L (counted_on st (Some (place, c)) (base_of st + length s)) t refl refl))
    ∙ ap (λ (f : Fed KeyState). and_then f (λ x. read_on L x (kept_bytes x.kept ++ t))) (sym (frozen L st s e))

module _ (L : Lists) (st : KeyState) (s t : List ℕ) (e : st.ill ≡ None) where
  abbrev base : ℕ
  base = base_of st

  abbrev here : (n : ℕ) → Stop → List ℕ → Fed KeyState
  here n i x = read_by L st.machine base st.double st.mark n i x

  -- by what can be read
  read_here : (x : List ℕ) {r : Ready} → ready_of x ≡ r → read_on L st x ≡ here r.bytes (ill_from base r.ill) x
  read_here x q = ap (λ (y : Stop). let part = ready_after y base x in here part.bytes part.ill x) e ∙ ap (λ (r : Ready). here r.bytes (ill_from base r.ill) x) q

  -- up to an ill-formed sequence
  module _ {place : ℕ} {c : Cause} (h : (ready_of s).ill ≡ Some (place, c)) where
    abbrev bytes : ℕ
    bytes = (ready_of s).bytes

    abbrev stop : Stop
    stop = Some (base + place, c)

    stop_ready : ready_of s ≡ record { bytes = bytes; ill = Some (place, c) }
    stop_ready = ap (λ (i : Stop). record { bytes = bytes; ill = i }) h

    abbrev made : List ℕ → (count : ℕ) → Fed KeyState
    made x count =
        let fed = feed L st.machine (replaced (chars x)) in
        record {
          out = fed.out;
          state = record { machine = fed.state; kept = Nothing; count = count; ill = stop; double = first_found st.double base (double_return x); mark = first_found st.mark base (hidden_mark x) };
        }

    bad_joins : Joins L st s t
    bad_joins =
        let z : base + length (s ++ t) ≡ base + length s + length t = omega (arith, length-append s t) in
        let f : Fed KeyState = made (take bytes s) (base + length s) in
        read_here (s ++ t) (ready_stays s t h ∙ stop_ready)
        ∙ ap (λ (x : List ℕ). made x (base + length (s ++ t))) (take-append-le bytes s t (ready_within s))
        ∙ ap (made (take bytes s)) z
        ∙ ap (λ (o : List ℕ). record { out = o; state = (made (take bytes s) (base + length s + length t)).state }) (sym (no_more f.out))
        ∙ ap (λ (g : Fed KeyState). record { out = f.out ++ g.out; state = g.state }) (sym (frozen_more L f.state t refl refl))
        ∙ ap (λ (f : Fed KeyState). and_then f (λ x. read_on L x (kept_bytes x.kept ++ t))) (sym (read_here s stop_ready))

  -- where nothing is ill-formed
  module _ (h : (ready_of s).ill ≡ None) where
    abbrev read : ℕ
    read = (ready_of s).bytes

    abbrev rest : List ℕ
    rest = drop read s

    read_ready : ready_of s ≡ record { bytes = read; ill = None }
    read_ready = ap (λ (i : Stop). record { bytes = read; ill = i }) h

    good_joins : Joins L st s t
    good_joins =
        let f : Fed KeyState = here read None s in
        let q : kept_bytes f.state.kept ≡ rest = kept_again rest (kept_few s h) in
        let b : base_of f.state ≡ base + read = omega (arith, ap length q, length-drop read s, ready_within s) in
        read_here (s ++ t) (ready_more s t h) ∙ at_once L st.machine base st.double st.mark s t h
        ∙ ap (λ (g : Fed KeyState). record { out = f.out ++ g.out; state = g.state }) (sym (from_here L f.state (base + read) rest t refl q b))
        ∙ ap (λ (f : Fed KeyState). and_then f (λ x. read_on L x (kept_bytes x.kept ++ t))) (sym (read_here s read_ready))

-- FOR ANY STATE AND ANY BYTES
pub read_more : (L : Lists) (st : KeyState) (s t : List ℕ) → read_on L st (s ++ t) ≡ and_then (read_on L st s) (λ z. read_on L z (kept_bytes z.kept ++ t))
read_more L st s t = by_state st.ill refl
  where
    by_bytes : st.ill ≡ None → (i : Stop) → (ready_of s).ill ≡ i → Joins L st s t
    by_bytes e (Some (p, c)) h = bad_joins L st s t e h
    by_bytes e None h = good_joins L st s t e h

    by_state : (i : Stop) → st.ill ≡ i → Joins L st s t
    by_state (Some (p, c)) e = ill_joins L st s t e
    by_state None e = by_bytes e (ready_of s).ill refl
