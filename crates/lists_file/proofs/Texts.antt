-- The texts of lines, and what they say: the one is the other's inverse.
use Prim.Native.Nat.{ℕ, zero, suc, ◌≤◌, ◌<◌}
use mathlib.Core.Path.{◌≡◌, refl, ap, ◌∙◌}
use mathlib.Core.Bool.{Bool, true, false}
use mathlib.Core.Logic.{⊎_elim}
use mathlib.Core.List.{List, ◌∷◌, ◌++◌}
use lib.ListN.{length}
use native.Mathlib.Omega.{arith}
use Rattle.basics.specs.Choice.{pick}
use Rattle.basics.specs.Tests.{is_in}
use Rattle.basics.proofs.Choices.{below_or_not}
use Rattle.fields.specs.Pieces.{piece, after, if_cut}
use Rattle.fields.specs.Words.{same}
use Rattle.fields.specs.Numerals.{numeral}
use Rattle.fields.proofs.Cuts.{Front, front, cut_at, no_cut, unmarked_append}
use Rattle.fields.proofs.Words.{same_self, same_true}
use Rattle.fields.proofs.Numerals.{Says, number_back, number_says, numeral_unmarked}
use Rattle.fields.proofs.Puts.{ten, sixteen}
use Rattle.lists_file.specs.declared.Version.{Version}
use Rattle.lists_file.specs.declared.Entry.{Entry}
use Rattle.std.specs.Prelude.{Option, None, Some}
use Rattle.lists_file.specs.Names.{tab, newline, unicode_word, start_word, continue_word, emoji_word, name_of}
use Rattle.lists_file.specs.File.{first_text, record_text, VersionFits}
use Rattle.lists_file.specs.Lines.{which_of, entry, entry_of, hex, pair_of, record_of, version, version_from, decimal, minor_of, major_of, version_of}

-- A CUT, by what is made of it
cut_made : {A : Type 0} (mark : ℕ) (p t : List ℕ) (none : A) (some : List ℕ → List ℕ → A) → is_in p mark ≡ false → if_cut mark (p ++ (mark ∷ t)) none some ≡ some p t
cut_made mark p t none some h = let f : Front mark p t = front mark p t h in rw (f.marked, f.before, f.behind) refl

record Told {A : Type 0} (mark : ℕ) (s : List ℕ) (some : List ℕ → List ℕ → A) (r : A) : Type 0 where
  whole : s ≡ piece mark s ++ (mark ∷ after mark s)
  made : some (piece mark s) (after mark s) ≡ r

cut_told : {A : Type 0} (mark : ℕ) (s : List ℕ) (none : A) (some : List ℕ → List ℕ → A) {r : A} → if_cut mark s none some ≡ r → (none ≡ r → ⊥) → Told mark s some r
cut_told {A} mark s none some {r} e n = by_mark (is_in s mark) refl e
  where
    by_mark : (t : Bool) → is_in s mark ≡ t → pick t (some (piece mark s) (after mark s)) none ≡ r → Told mark s some r
    by_mark true m q =
        ⊎_elim
        (λ (h : length (piece mark s) < length s). record { whole = (cut_at mark s h).whole; made = q })
        (λ (h : length s ≤ length (piece mark s)). let u : is_in s mark ≡ false = (no_cut mark s h).unmarked in absurd (cc))
        (below_or_not (length (piece mark s)) (length s))
    by_mark false m q = absurd (n q)

-- THE NAMES of the lists
name_tabless : (which : ℕ) → is_in (name_of which) tab ≡ false
name_tabless zero = refl
name_tabless (suc zero) = refl
name_tabless (suc (suc n)) = refl

name_unmarked : (which : ℕ) → is_in (name_of which) newline ≡ false
name_unmarked zero = refl
name_unmarked (suc zero) = refl
name_unmarked (suc (suc n)) = refl

which_back : (which : ℕ) → which ≤ 2 → which_of (name_of which) ≡ Some which
unfolding which_of same
which_back zero h = refl
which_back (suc zero) h = refl
which_back (suc (suc zero)) h = refl
which_back (suc (suc (suc n))) h = absurd (omega arith)

record Named (name : List ℕ) (which : ℕ) : Type 0 where
  written : name ≡ name_of which
  small : which ≤ 2

named_by : (name : List ℕ) (k : ℕ) {which : ℕ} → name ≡ name_of k → k ≤ 2 → Some k ≡ Some which → Named name which
named_by name k {which} e h q = let o : k ≡ which = cc in record { written = e ∙ ap name_of o; small = omega arith }

which_says : (name : List ℕ) {which : ℕ} → which_of name ≡ Some which → Named name which
unfolding which_of
which_says name {which} q = by_start (same name start_word) refl q
  where
    by_emoji : (t : Bool) → same name emoji_word ≡ t → pick t (Some 2) None ≡ Some which → Named name which
    by_emoji true e p = named_by name 2 (same_true name emoji_word e) (omega arith) p
    by_emoji false e p = absurd (cc)

    by_continue : (t : Bool) → same name continue_word ≡ t → pick t (Some 1) (pick (same name emoji_word) (Some 2) None) ≡ Some which → Named name which
    by_continue true e p = named_by name 1 (same_true name continue_word e) (omega arith) p
    by_continue false e p = by_emoji (same name emoji_word) refl p

    by_start : (t : Bool) → same name start_word ≡ t → pick t (Some 0) (pick (same name continue_word) (Some 1) (pick (same name emoji_word) (Some 2) None)) ≡ Some which → Named name which
    by_start true e p = named_by name 0 (same_true name start_word e) (omega arith) p
    by_start false e p = by_continue (same name continue_word) refl p

-- A RECORD: what is made of a name and what follows it, and of the three fields
abbrev named : (name more : List ℕ) → Option Entry
named name more = pair_of (which_of name) more

abbrev three : (name low high : List ℕ) → Option Entry
three name low high = entry_of (which_of name) (hex low) (hex high)

pub record_back : (which low high : ℕ) → which ≤ 2 → low ≤ 0xFFFFFF → high ≤ 0xFFFFFF → record_of (record_text which low high) ≡ Some (entry which low high)
unfolding record_of record_text
record_back which low high w l h =
    cut_made tab (name_of which) (numeral 16 low ++ (tab ∷ numeral 16 high)) None named (name_tabless which)
    ∙ cut_made tab (numeral 16 low) (numeral 16 high) None (three (name_of which)) (numeral_unmarked 16 low tab (omega arith))
    ∙ rw (which_back which w, number_back sixteen 0xFFFFFF low l, number_back sixteen 0xFFFFFF high h) refl

record Entered (which low high : Option ℕ) (e : Entry) : Type 0 where
  which_says : which ≡ Some e.which
  low_says : low ≡ Some e.low
  high_says : high ≡ Some e.high

entry_says : (which low high : Option ℕ) {e : Entry} → entry_of which low high ≡ Some e → Entered which low high e
entry_says (Some which) (Some low) (Some high) {e} q =
    let o : entry which low high ≡ e = cc in
    record { which_says = ap (λ (x : Entry). Some x.which) o; low_says = ap (λ (x : Entry). Some x.low) o; high_says = ap (λ (x : Entry). Some x.high) o }
entry_says (Some which) (Some low) None q = absurd (cc)
entry_says (Some which) None high q = absurd (cc)
entry_says None low high q = absurd (cc)

pub record RecordSays (text : List ℕ) (e : Entry) : Type 0 where
  pub written : text ≡ record_text e.which e.low e.high
  pub which : e.which ≤ 2
  pub low : e.low ≤ 0xFFFFFF
  pub high : e.high ≤ 0xFFFFFF

no_record : {e : Entry} → None ≡ Some e → ⊥
no_record b = cc

pub record_says : (text : List ℕ) {e : Entry} → record_of text ≡ Some e → RecordSays text e
unfolding record_of record_text
record_says text {e} q =
    let more : List ℕ = after tab text in
    let c : Told tab text named (Some e) = cut_told tab text None named q no_record in
    let d : Told tab more (three (piece tab text)) (Some e) = cut_told tab more None (three (piece tab text)) c.made no_record in
    let n : Entered (which_of (piece tab text)) (hex (piece tab more)) (hex (after tab more)) e = entry_says _ _ _ d.made in
    let l : Says sixteen 0xFFFFFF (piece tab more) e.low = number_says sixteen 0xFFFFFF (piece tab more) n.low_says in
    let h : Says sixteen 0xFFFFFF (after tab more) e.high = number_says sixteen 0xFFFFFF (after tab more) n.high_says in
    let w : Named (piece tab text) e.which = which_says (piece tab text) n.which_says in
    record {
      written = c.whole ∙ ap (λ (x : List ℕ). piece tab text ++ (tab ∷ x)) d.whole ∙ rw (w.written, l.written, h.written) refl;
      which = w.small;
      low = l.small;
      high = h.small;
    }

-- THE FIRST LINE: what is made of the word and what follows it, of the first two fields and what follows them, and of all four
abbrev headed : (word more : List ℕ) → Option Version
headed word more = major_of (same word unicode_word) more

abbrev begun : (word major most : List ℕ) → Option Version
begun word major most = minor_of (same word unicode_word) (decimal major) most

abbrev four : (word major minor update : List ℕ) → Option Version
four word major minor update = pick (same word unicode_word) (version_from (decimal major) (decimal minor) (decimal update)) None

pub version_back : (v : Version) → VersionFits v → version_of (first_text v) ≡ Some v
unfolding version_of first_text
version_back v f =
    let m : List ℕ = numeral 10 v.major in
    let n : List ℕ = numeral 10 v.minor in
    let u : List ℕ = numeral 10 v.update in
    cut_made tab unicode_word (m ++ (tab ∷ (n ++ (tab ∷ u)))) None headed refl
    ∙ cut_made tab m (n ++ (tab ∷ u)) None (begun unicode_word) (numeral_unmarked 10 v.major tab (omega arith))
    ∙ cut_made tab n u None (four unicode_word m) (numeral_unmarked 10 v.minor tab (omega arith))
    ∙ rw (same_self unicode_word, number_back ten 65535 v.major f.major, number_back ten 65535 v.minor f.minor, number_back ten 65535 v.update f.update) refl

record Versioned (major minor update : Option ℕ) (v : Version) : Type 0 where
  major_says : major ≡ Some v.major
  minor_says : minor ≡ Some v.minor
  update_says : update ≡ Some v.update

from_says : (major minor update : Option ℕ) {v : Version} → version_from major minor update ≡ Some v → Versioned major minor update v
from_says (Some major) (Some minor) (Some update) {v} q =
    let o : version major minor update ≡ v = cc in
    record { major_says = ap (λ (x : Version). Some x.major) o; minor_says = ap (λ (x : Version). Some x.minor) o; update_says = ap (λ (x : Version). Some x.update) o }
from_says (Some major) (Some minor) None q = absurd (cc)
from_says (Some major) None update q = absurd (cc)
from_says None minor update q = absurd (cc)

record Worded (word : List ℕ) (r : Option Version) (v : Version) : Type 0 where
  unicode : word ≡ unicode_word
  read : r ≡ Some v

word_says : (word : List ℕ) (r : Option Version) {v : Version} → pick (same word unicode_word) r None ≡ Some v → Worded word r v
word_says word r {v} q = by_word (same word unicode_word) refl q
  where
    by_word : (t : Bool) → same word unicode_word ≡ t → pick t r None ≡ Some v → Worded word r v
    by_word true e p = record { unicode = same_true word unicode_word e; read = p }
    by_word false e p = absurd (cc)

no_version : {v : Version} → None ≡ Some v → ⊥
no_version b = cc

pub record VersionSays (text : List ℕ) (v : Version) : Type 0 where
  pub written : text ≡ first_text v
  pub fits : VersionFits v

pub version_says : (text : List ℕ) {v : Version} → version_of text ≡ Some v → VersionSays text v
unfolding version_of first_text
version_says text {v} q =
    let word : List ℕ = piece tab text in
    let more : List ℕ = after tab text in
    let major : List ℕ = piece tab more in
    let most : List ℕ = after tab more in
    let minor : List ℕ = piece tab most in
    let update : List ℕ = after tab most in
    let c : Told tab text headed (Some v) = cut_told tab text None headed q no_version in
    let d : Told tab more (begun word) (Some v) = cut_told tab more None (begun word) c.made no_version in
    let g : Told tab most (four word major) (Some v) = cut_told tab most None (four word major) d.made no_version in
    let w : Worded word (version_from (decimal major) (decimal minor) (decimal update)) v = word_says word _ g.made in
    let n : Versioned (decimal major) (decimal minor) (decimal update) v = from_says _ _ _ w.read in
    let a : Says ten 65535 major v.major = number_says ten 65535 major n.major_says in
    let i : Says ten 65535 minor v.minor = number_says ten 65535 minor n.minor_says in
    let u : Says ten 65535 update v.update = number_says ten 65535 update n.update_says in
    record {
      written = c.whole ∙ ap (λ (x : List ℕ). word ++ (tab ∷ x)) (d.whole ∙ ap (λ (x : List ℕ). major ++ (tab ∷ x)) g.whole) ∙ rw (w.unicode, a.written, i.written, u.written) refl;
      fits = record { major = a.small; minor = i.small; update = u.small };
    }

-- NO LINE has LF in it
pub record_unmarked : (which low high : ℕ) → is_in (record_text which low high) newline ≡ false
unfolding record_text
record_unmarked which low high =
    let h : is_in (numeral 16 high) newline ≡ false = numeral_unmarked 16 high newline (omega arith) in
    let l : is_in (numeral 16 low ++ (tab ∷ numeral 16 high)) newline ≡ false = unmarked_append newline (numeral 16 low) (tab ∷ numeral 16 high) (numeral_unmarked 16 low newline (omega arith)) h in
    unmarked_append newline (name_of which) (tab ∷ (numeral 16 low ++ (tab ∷ numeral 16 high))) (name_unmarked which) l

pub first_unmarked : (v : Version) → is_in (first_text v) newline ≡ false
unfolding first_text
first_unmarked v =
    let m : List ℕ = numeral 10 v.major in
    let n : List ℕ = numeral 10 v.minor in
    let u : List ℕ = numeral 10 v.update in
    let a : is_in (n ++ (tab ∷ u)) newline ≡ false = unmarked_append newline n (tab ∷ u) (numeral_unmarked 10 v.minor newline (omega arith)) (numeral_unmarked 10 v.update newline (omega arith)) in
    let b : is_in (m ++ (tab ∷ (n ++ (tab ∷ u)))) newline ≡ false = unmarked_append newline m (tab ∷ (n ++ (tab ∷ u))) (numeral_unmarked 10 v.major newline (omega arith)) a in
    b
