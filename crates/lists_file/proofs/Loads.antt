-- The reader, step by step, over the bytes of a file.
use Prim.Native.Nat.{ℕ, zero, suc, ◌≤◌}
use mathlib.Core.Path.{◌≡◌, refl, ap, ◌∙◌}
use mathlib.Core.Bool.{Bool, true, false}
use mathlib.Core.List.{List, [], ◌∷◌, ◌++◌, append_assoc, append-nil}
use borrow.Author.Tests.{le-ltb, ltb-false}
use lib.Dec.{ltb}
use native.Mathlib.Omega.{arith}
use Rattle.basics.specs.Tests.{is_in}
use Rattle.token.specs.Lists.{Lists, lent, none}
use Rattle.fields.specs.Pieces.{Parted, parts, parted}
use Rattle.fields.proofs.Cuts.{front}
use Rattle.lists_file.specs.declared.Version.{Version}
use Rattle.lists_file.specs.declared.Entry.{Entry}
use Rattle.std.specs.Prelude.{Option, None, Some}
use Rattle.lists_file.specs.Names.{newline}
use Rattle.lists_file.specs.File.{record_text, line, group_lines, Pairs, no_pair, pair}
use Rattle.lists_file.specs.Lines.{record_of, version_of}
use Rattle.lists_file.specs.Load.{loaded, bad_line, added, load_from, load_lines, load_at}
use Rattle.lists_file.proofs.Texts.{record_back, record_unmarked}

pub load_end : (index group : ℕ) (v : Version) (L : Lists) → load_at index group v L [] ≡ loaded v L
unfolding load_from parted
load_end index group v L = refl

-- the parts of a line and what follows it
pub parted_line : (p t : List ℕ) → is_in p newline ≡ false → parted newline (line p ++ t) ≡ parts (p ∷ (parted newline t).ended) (parted newline t).rest
parted_line p t h = ap (parted newline) (append_assoc p (newline ∷ []) t) ∙ (front newline p t h).parts_on

-- A LINE, whatever follows it: the reader stops there, or goes on after a record, which is not of an earlier list
pub data Step (index group : ℕ) (v : Version) (L : Lists) (text : List ℕ) : Type 0 where
  stops : ((lines : List (List ℕ)) (rest : List ℕ) → load_from index group v L (text ∷ lines) rest ≡ bad_line index) → Step index group v L text
  goes_on : (e : Entry) → record_of text ≡ Some e → group ≤ e.which
      → ((lines : List (List ℕ)) (rest : List ℕ) → load_from index group v L (text ∷ lines) rest ≡ load_from (suc index) e.which v (added e.which e.low e.high L) lines rest)
      → Step index group v L text

pub step : (index group : ℕ) (v : Version) (L : Lists) (text : List ℕ) → Step index group v L text
unfolding load_from
step index group v L text = by_line (record_of text) refl
  where
    by_group : (e : Entry) → record_of text ≡ Some e → (t : Bool) → ltb e.which group ≡ t → Step index group v L text
    by_group e r true l = stops (λ lines rest. rw (r, load_from, l) refl)
    by_group e r false l = goes_on e r (ltb-false e.which group l) (λ lines rest. rw (r, load_from, l) refl)

    by_line : (r : Option Entry) → record_of text ≡ r → Step index group v L text
    by_line (Some e) r = by_group e r (ltb e.which group) refl
    by_line None r = stops (λ lines rest. rw (r, load_from) refl)

-- the first line
pub data FirstStep (text : List ℕ) : Type 0 where
  first_stops : ((lines : List (List ℕ)) (rest : List ℕ) → load_lines (text ∷ lines) rest ≡ bad_line 0) → FirstStep text
  first_goes_on : (v : Version) → version_of text ≡ Some v → ((lines : List (List ℕ)) (rest : List ℕ) → load_lines (text ∷ lines) rest ≡ load_from 1 0 v none lines rest) → FirstStep text

pub first_step : (text : List ℕ) → FirstStep text
first_step text = by_line (version_of text) refl
  where
    by_line : (r : Option Version) → version_of text ≡ r → FirstStep text
    by_line (Some v) r = first_goes_on v r (λ lines rest. rw (r, load_lines) refl)
    by_line None r = first_stops (λ lines rest. rw (r, load_lines) refl)

-- A RECORD is added, unless it is of an earlier list
pub load_record : (index group : ℕ) (v : Version) (L : Lists) (p t : List ℕ) {e : Entry} → is_in p newline ≡ false → record_of p ≡ Some e → group ≤ e.which
    → load_at index group v L (line p ++ t) ≡ load_at (suc index) e.which v (added e.which e.low e.high L) t
unfolding load_from
load_record index group v L p t {e} h r g =
    ap (λ (q : Parted). load_from index group v L q.ended q.rest) (parted_line p t h) ∙ rw (r, load_from, le-ltb e.which group g) refl

-- A GROUP: the pairs of a list are added to it
abbrev pub extended : (which : ℕ) → List ℕ → Lists → Lists
extended zero l L = lent (L.starts ++ l) L.continues L.emoji
extended (suc zero) l L = lent L.starts (L.continues ++ l) L.emoji
extended (suc (suc n)) l L = lent L.starts L.continues (L.emoji ++ l)

extended_none : (which : ℕ) (L : Lists) → L ≡ extended which [] L
extended_none zero L = rw append-nil refl
extended_none (suc zero) L = rw append-nil refl
extended_none (suc (suc n)) L = rw append-nil refl

extended_more : (which low high : ℕ) (l : List ℕ) (L : Lists) → extended which l (added which low high L) ≡ extended which (low ∷ high ∷ l) L
extended_more zero low high l L = rw append_assoc refl
extended_more (suc zero) low high l L = rw append_assoc refl
extended_more (suc (suc n)) low high l L = rw append_assoc refl

-- where it goes on: at a later line, after a record of this list or, where there is none, of the one before
pub record Passed (index group : ℕ) (v : Version) (L : Lists) (which : ℕ) (l t : List ℕ) : Type 0 where
  pub next : ℕ
  pub last : ℕ
  pub small : last ≤ which
  pub goes : load_at index group v L (group_lines which l ++ t) ≡ load_at next last v (extended which l L) t

pub load_group : (index group : ℕ) (v : Version) (L : Lists) (which : ℕ) (l t : List ℕ) → Pairs l → which ≤ 2 → group ≤ which → Passed index group v L which l t
unfolding group_lines
load_group index group v L which [] t no_pair w g = record { next = index; last = group; small = g; goes = ap (λ (M : Lists). load_at index group v M t) (extended_none which L) }
load_group index group v L which (low ∷ []) t p w g = elim p [ ]
load_group index group v L which (low ∷ high ∷ l) t (pair a b p) w g =
    let k : Passed (suc index) which v (added which low high L) which l t = load_group (suc index) which v (added which low high L) which l t p w (omega arith) in
    record {
      next = k.next;
      last = k.last;
      small = k.small;
      goes =
          ap (load_at index group v L) (append_assoc (line (record_text which low high)) (group_lines which l) t)
          ∙ load_record index group v L (record_text which low high) (group_lines which l ++ t) (record_unmarked which low high) (record_back which low high w a b) g
          ∙ k.goes
          ∙ ap (λ (M : Lists). load_at k.next k.last v M t) (extended_more which low high l L);
    }
