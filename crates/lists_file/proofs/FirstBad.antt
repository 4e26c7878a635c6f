-- THE FIRST BAD LINE: the line that the reader names is it.
use Prim.Native.Nat.{ℕ, zero, suc, ◌+◌}
use mathlib.Core.Path.{◌≡◌, refl, sym, ap, ◌∙◌}
use mathlib.Core.Bool.{Bool, true, false}
use mathlib.Core.List.{List, [], ◌∷◌}
use lib.Dec.{eqb}
use native.Mathlib.Omega.{arith}
use Rattle.token.specs.Lists.{Lists, none}
use Rattle.fields.specs.Pieces.{Parted, parts, onto, parted}
use Rattle.lists_file.specs.declared.Version.{Version}
use Rattle.lists_file.specs.declared.Entry.{Entry}
use Rattle.lists_file.specs.Names.{newline}
use Rattle.lists_file.specs.File.{IsFile}
use Rattle.lists_file.specs.Load.{loaded, bad_line, added, load_from, load_lines, load}
use Rattle.lists_file.specs.FirstBad.{first_lines, FirstBad}
use Rattle.lists_file.proofs.Loads.{Step, stops, goes_on, step, FirstStep, first_stops, first_goes_on, first_step}
use Rattle.lists_file.proofs.RoundTrip.{Holds, holds, no_file}

-- the first pieces of a text, of which the last may be its rest
abbrev first_ended : (many : ℕ) → List (List ℕ) → List (List ℕ)
first_ended zero ps = []
first_ended (suc many) [] = []
first_ended (suc many) (p ∷ ps) = p ∷ first_ended many ps

abbrev first_rest : (many : ℕ) → List (List ℕ) → List ℕ → List ℕ
first_rest zero ps rest = []
first_rest (suc many) [] rest = rest
first_rest (suc many) (p ∷ ps) rest = first_rest many ps rest

abbrev first_parts : (many : ℕ) → List (List ℕ) → List ℕ → Parted
first_parts many ps rest = parts (first_ended many ps) (first_rest many ps rest)

-- a byte more in front is one of the first piece
onto_first : (many c : ℕ) (ps : List (List ℕ)) (rest : List ℕ)
    → onto c (first_ended (suc many) ps) (first_rest (suc many) ps rest) ≡ first_parts (suc many) (onto c ps rest).ended (onto c ps rest).rest
onto_first many c [] rest = refl
onto_first many c (p ∷ ps) rest = refl

-- THE FIRST LINES of a text are its first parts
first_parted : (many : ℕ) (s : List ℕ) → parted newline (first_lines many s) ≡ first_parts many (parted newline s).ended (parted newline s).rest
unfolding first_lines parted
first_parted zero s = refl
first_parted (suc many) [] = refl
first_parted (suc many) (c ∷ s) = by_test (eqb c newline) refl (first_parted many s) (first_parted (suc many) s)
  where
    by_test : (t : Bool) → eqb c newline ≡ t
        → parted newline (first_lines many s) ≡ first_parts many (parted newline s).ended (parted newline s).rest
        → parted newline (first_lines (suc many) s) ≡ first_parts (suc many) (parted newline s).ended (parted newline s).rest
        → parted newline (first_lines (suc many) (c ∷ s)) ≡ first_parts (suc many) (parted newline (c ∷ s)).ended (parted newline (c ∷ s)).rest
    by_test true e f g = rw (e, first_lines, parted) (ap (λ (p : Parted). parts ([] ∷ p.ended) p.rest) f)
    by_test false e f g = rw (e, first_lines, parted) (ap (λ (p : Parted). onto c p.ended p.rest) g ∙ onto_first many c (parted newline s).ended (parted newline s).rest)

-- WHERE THE READER STOPS, at line k, the lines before k load, and with line k they do not
record Stopped (index group : ℕ) (v : Version) (A : Lists) (lines : List (List ℕ)) (rest : List ℕ) (k : ℕ) : Type 0 where
  many : ℕ
  place : index + many ≡ k
  lists : Lists
  before : load_from index group v A (first_ended many lines) (first_rest many lines rest) ≡ loaded v lists
  here : load_from index group v A (first_ended (suc many) lines) (first_rest (suc many) lines rest) ≡ bad_line k

stopped : (index group : ℕ) (v : Version) (A : Lists) (lines : List (List ℕ)) (rest : List ℕ) {k : ℕ} → load_from index group v A lines rest ≡ bad_line k → Stopped index group v A lines rest k
unfolding load_from
stopped index group v A [] [] q = absurd (cc)
stopped index group v A [] (c ∷ rest) {k} q =
    let o : index ≡ k = cc in
    record { many = 0; place = omega arith; lists = A; before = refl; here = q }
stopped index group v A (text ∷ lines) rest {k} q = by_step (step index group v A text) (λ (e : Entry). stopped (suc index) e.which v (added e.which e.low e.high A) lines rest)
  where
    by_step : Step index group v A text
        → ((e : Entry) → load_from (suc index) e.which v (added e.which e.low e.high A) lines rest ≡ bad_line k
        → Stopped (suc index) e.which v (added e.which e.low e.high A) lines rest k)
        → Stopped index group v A (text ∷ lines) rest k
    by_step (stops b) ih =
        let o : index ≡ k = cc (b lines rest) in
        record { many = 0; place = omega arith; lists = A; before = refl; here = b [] [] ∙ ap bad_line o }
    by_step (goes_on e r h b) ih =
        let m : Stopped (suc index) e.which v (added e.which e.low e.high A) lines rest k = ih e (sym (b lines rest) ∙ q) in
        record {
          many = suc m.many;
          place = omega (arith, m.place);
          lists = m.lists;
          before = b (first_ended m.many lines) (first_rest m.many lines rest) ∙ m.before;
          here = b (first_ended (suc m.many) lines) (first_rest (suc m.many) lines rest) ∙ m.here;
        }

-- the same from the first line on
record Good (lines : List (List ℕ)) (rest : List ℕ) : Type 0 where
  version : Version
  lists : Lists
  loads : load_lines lines rest ≡ loaded version lists

record Refused (lines : List (List ℕ)) (rest : List ℕ) (k : ℕ) : Type 0 where
  before : (k ≡ 0 → ⊥) → Good (first_ended k lines) (first_rest k lines rest)
  here : load_lines (first_ended (suc k) lines) (first_rest (suc k) lines rest) ≡ bad_line k

at_once : (lines : List (List ℕ)) (rest : List ℕ) {k : ℕ} → k ≡ 0 → load_lines (first_ended 1 lines) (first_rest 1 lines rest) ≡ bad_line 0 → Refused lines rest k
at_once lines rest {k} e q = record { before = λ (n : k ≡ 0 → ⊥). absurd (n e); here = rw e q }

refused : (lines : List (List ℕ)) (rest : List ℕ) {k : ℕ} → load_lines lines rest ≡ bad_line k → Refused lines rest k
refused [] rest q = at_once [] rest (cc) refl
refused (text ∷ lines) rest {k} q = by_step (first_step text)
  where
    by_step : FirstStep text → Refused (text ∷ lines) rest k
    by_step (first_stops b) = at_once (text ∷ lines) rest (cc (b lines rest)) (b [] [])
    by_step (first_goes_on v r b) =
        let m : Stopped 1 0 v none lines rest k = stopped 1 0 v none lines rest (sym (b lines rest) ∙ q) in
        let e : k ≡ suc m.many = omega (arith, m.place) in
        record {
          before = λ _. rw e (record { version = v; lists = m.lists; loads = b (first_ended m.many lines) (first_rest m.many lines rest) ∙ m.before });
          here = rw e (b (first_ended (suc m.many) lines) (first_rest (suc m.many) lines rest) ∙ m.here ∙ ap bad_line e);
        }

load_first : (many : ℕ) (s : List ℕ) → load (first_lines many s) ≡ load_lines (first_ended many (parted newline s).ended) (first_rest many (parted newline s).ended (parted newline s).rest)
unfolding load
load_first many s = ap (λ (p : Parted). load_lines p.ended p.rest) (first_parted many s)

good_file : (many : ℕ) (s : List ℕ) → Good (first_ended many (parted newline s).ended) (first_rest many (parted newline s).ended (parted newline s).rest) → IsFile (first_lines many s)
good_file many s g =
    let h : Holds (first_lines many s) g.version g.lists = holds (first_lines many s) (load_first many s ∙ g.loads) in
    record { version = g.version; lists = g.lists; fits = h.fits; fit = h.fit; same = h.same }

-- THE LINE OF A REFUSAL is the first bad one.
pub first_bad : (s : List ℕ) {k : ℕ} → load s ≡ bad_line k → FirstBad s k
unfolding load
first_bad s {k} q =
    let r : Refused (parted newline s).ended (parted newline s).rest k = refused (parted newline s).ended (parted newline s).rest q in
    record {
      before = λ (n : k ≡ 0 → ⊥). good_file k s (r.before n);
      here = no_file (first_lines (suc k) s) (load_first (suc k) s ∙ r.here);
    }
