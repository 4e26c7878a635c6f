-- The pass over the lines: what is kept of the lines before a place is what the reader has read there.
use Prim.Native.Nat.{ℕ, suc, ◌+◌, ◌-◌, ◌≤◌, ◌<◌}
use mathlib.Core.Path.{◌≡◌, refl, sym, ap, ◌∙◌}
use mathlib.Core.List.{List, [], ◌∷◌}
use lib.ListN.{length, drop, length-drop, length-append}
use lib.Seq.{drop-drop}
use native.Mathlib.Numerals.{add-one}
use native.Mathlib.Omega.{arith}
use mathlib.Core.Bool.{false}
use Rattle.basics.specs.Tests.{is_in}
use Rattle.fields.specs.Pieces.{piece, after, CutInto, Parted}
use Rattle.fields.proofs.Cuts.{Uncut}
use Rattle.token.specs.Lists.{Lists, none}
use Rattle.lists_file.specs.declared.Version.{Version}
use Rattle.lists_file.specs.declared.Entry.{Entry}
use Rattle.std.specs.Prelude.{Option, None, Some, Result, Ok, Err}
use Rattle.lists_file.specs.File.{ListsFit, no_pair}
use Rattle.lists_file.specs.Lines.{record_of, version_of}
use Rattle.lists_file.specs.Load.{bad_line, added, load_at, load_lines, load}
use Rattle.lists_file.proofs.Texts.{RecordSays, record_says}
use Rattle.lists_in.specs.declared.Tally.{Tally}
use Rattle.lists_in.specs.declared.Each.{Each}
use Rattle.lists_in.specs.declared.Found.{Found}
use Rattle.lists_in.specs.Tallies.{tallies_of, tallies_on, RoomForPair}
use Rattle.lists_in.specs.Surveys.{step_of, found, surveyed, Starting}
use Rattle.lists_in.proofs.Counting.{tallies_more, lists_more, numbers_in, numbers_more}
use Rattle.lists_in.proofs.Steps.{Told, step_told, marked_cut, unmarked_uncut, load_none, load_bad, load_back, load_on}

-- a record has a byte or more
some_bytes : (p : List ℕ) {e : Entry} → record_of p ≡ Some e → 1 ≤ length p
unfolding record_of
some_bytes [] h = absurd (cc)
some_bytes (c ∷ p) h = omega arith

-- THE NEXT LINE begins past this one
pub record Onward (s : List ℕ) (at next : ℕ) : Type 0 where
  pub past : at + 2 ≤ next
  pub within : next ≤ length s
  pub rest : after 10 (drop at s) ≡ drop next s

pub onward : (s : List ℕ) (at : ℕ) {e : Entry} {next : ℕ} → at ≤ length s → Told at (drop at s) e next → Onward s at next
onward s at {e} {next} h d =
    let n : 1 ≤ length (piece 10 (drop at s)) = some_bytes (piece 10 (drop at s)) d.said in
    let w : length (drop at s) ≡ length (piece 10 (drop at s)) + suc (length (after 10 (drop at s))) = ap length d.cut.whole ∙ length-append (piece 10 (drop at s)) (10 ∷ after 10 (drop at s)) in
    let l : length (drop at s) ≡ length s - at = length-drop at s in
    let k : at + suc (length (piece 10 (drop at s))) ≡ next = omega (arith, d.past) in
    record {
      past = omega (arith, d.past);
      within = omega (arith, d.past);
      rest = d.cut.rest ∙ drop-drop (suc (length (piece 10 (drop at s)))) at s ∙ ap (λ (x : ℕ). drop x s) k;
    }

-- THE LOOP
pub record Surveying (s : List ℕ) (v : Version) (from at index group : ℕ) (t : Each Tally) : Type 0 where
  pub read : Lists
  pub fit : ListsFit read
  pub same : load_at index group v read (drop at s) ≡ load_at 1 0 v none (drop from s)
  pub told : t ≡ tallies_of read
  pub few : numbers_in read ≤ at
  pub lines : index ≤ at
  pub within : at ≤ length s

pub survey_starts : {s : List ℕ} (v : Version) {from : ℕ} {t : Each Tally} → Starting from (length s) → t ≡ tallies_of none → Surveying s v from from 1 0 t
survey_starts v h e =
    record { read = none; fit = record { starts = no_pair; continues = no_pair; emoji = no_pair }; same = refl; told = e; few = omega arith; lines = h.past; within = h.within }

module _ {s : List ℕ} {v : Version} {from at index group : ℕ} {t : Each Tally} (w : Surveying s v from at index group t) where
  module _ (h : at < length s) {r : Option (Entry × ℕ)} (p : r ≡ step_of at (drop at s)) where
    some : 0 < length (drop at s)
    some = omega (arith, length-drop at s)

    pub survey_bad : r ≡ None → Err index ≡ surveyed from (load_at 1 0 v none (drop from s))
    survey_bad q = ap (surveyed from) (sym (load_bad index group v w.read at (drop at s) some (sym p ∙ q)) ∙ w.same)

    module _ {e : Entry} {next : ℕ} (q : r ≡ Some (e, next)) where
      line_told : Told at (drop at s) e next
      line_told = step_told at (drop at s) (sym p ∙ q)

      pub survey_next : Onward s at next
      survey_next = onward s at w.within line_told

      pub survey_back : e.which < group → Err index ≡ surveyed from (load_at 1 0 v none (drop from s))
      survey_back k = ap (surveyed from) (sym (load_back index group v w.read at (drop at s) line_told k) ∙ w.same)

      pub survey_room : length s ≤ 18446744073709551615 → RoomForPair t
      survey_room m =
          let n : Onward s at next = survey_next in
          rw w.told (record { starts = omega (arith, w.few, n.past, n.within); continues = omega (arith, w.few, n.past, n.within); emoji = omega (arith, w.few, n.past, n.within) })

      pub survey_on : {u : Each Tally} → group ≤ e.which → u ≡ tallies_on t e → Surveying s v from next (index + 1) e.which u
      survey_on {u} k f =
          let n : Onward s at next = survey_next in
          let x : RecordSays (piece 10 (drop at s)) e = record_says (piece 10 (drop at s)) line_told.said in
          record {
            read = added e.which e.low e.high w.read;
            fit = lists_more e.which e.low e.high w.fit x.low x.high;
            same =
                ap (λ (i : ℕ). load_at i e.which v (added e.which e.low e.high w.read) (drop next s)) (add-one index)
                ∙ sym (load_on index group v w.read at (drop at s) line_told k ∙ ap (load_at (suc index) e.which v (added e.which e.low e.high w.read)) n.rest)
                ∙ w.same;
            told = f ∙ ap (λ (y : Each Tally). tallies_on y e) w.told ∙ tallies_more e.which e.low e.high w.fit;
            few = omega (arith, w.few, n.past, numbers_more e.which e.low e.high w.read);
            lines = omega (arith, w.lines, n.past);
            within = n.within;
          }

  pub survey_ends : length s ≤ at → Ok (found v from t) ≡ surveyed from (load_at 1 0 v none (drop from s))
  survey_ends h =
      let z : length (drop at s) ≡ 0 = omega (arith, length-drop at s) in
      ap (λ (y : Each Tally). Ok (found v from y)) w.told ∙ ap (surveyed from) (sym (load_none index group v w.read (drop at s) z) ∙ w.same)

-- THE FIRST LINE: it does not end, it is not that of a version, or the others follow it
pub file_unended : (s : List ℕ) → is_in s 10 ≡ false → Err 0 ≡ surveyed (length (piece 10 s) + 1) (load s)
unfolding load
file_unended s h =
    let u : Uncut 10 s = unmarked_uncut s h in
    sym (ap (λ (q : Parted). surveyed (length (piece 10 s) + 1) (load_lines q.ended q.rest)) u.no_parts)

module _ {s text rest : List ℕ} (c : CutInto 10 s text rest) where
  opened : {f : Option Version} → f ≡ version_of text → load s ≡ elim f [ Some v ↦ load_at 1 0 v none (after 10 s) | None ↦ bad_line 0 ]
  unfolding load
  opened e =
      ap (λ (q : Parted). load_lines q.ended q.rest) (marked_cut s c.marked).parts_on
      ∙ ap (λ (x : List ℕ). elim (version_of x) [ Some v ↦ load_at 1 0 v none (after 10 s) | None ↦ bad_line 0 ]) (sym c.before_it)
      ∙ ap (λ (y : Option Version). elim y [ Some v ↦ load_at 1 0 v none (after 10 s) | None ↦ bad_line 0 ]) (sym e)

  pub file_bad : None ≡ version_of text → Err 0 ≡ surveyed (length (piece 10 s) + 1) (load s)
  file_bad e = sym (ap (surveyed (length (piece 10 s) + 1)) (opened e))

  -- the others begin past its LF, within the file
  past : drop (length text + 1) s ≡ after 10 s
  past = sym ((marked_cut s c.marked).rest ∙ rw (← c.before_it, add-one) refl)

  pub file_starts : Starting (length text + 1) (length s)
  file_starts =
      let w : length s ≡ length (piece 10 s) + suc (length (after 10 s)) = ap length (marked_cut s c.marked).whole ∙ length-append (piece 10 s) (10 ∷ after 10 s) in
      record { past = omega arith; within = omega (arith, w, ap length c.before_it) }

  pub file_good : {v : Version} {r : Result Found ℕ} → Some v ≡ version_of text → r ≡ surveyed (length text + 1) (load_at 1 0 v none (drop (length text + 1) s)) → r ≡ surveyed (length (piece 10 s) + 1) (load s)
  file_good {v} e g =
      g ∙ ap (λ (x : List ℕ). surveyed (length text + 1) (load_at 1 0 v none x)) past
      ∙ ap (λ (x : List ℕ). surveyed (length x + 1) (load_at 1 0 v none (after 10 s))) c.before_it
      ∙ sym (ap (surveyed (length (piece 10 s) + 1)) (opened e))
