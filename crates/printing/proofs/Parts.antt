-- What the loops that write lines know, in the facts of the code.
use Rattle.std.proofs.Common.{ℕ, ◌≤◌, ◌<◌, ◌≡◌, refl, sym, ap, subst, ◌∙◌, Bool, true, false, List, [], ◌++◌, append_assoc, append-nil, length, take, drop, arith, Result, Ok, Err, OnOk}
use Rattle.std.specs.declared.option.Option.{Option}
use Rattle.std.specs.Io.KnownBytes.{Appends}
use Rattle.std.proofs.KnownBytes.{Appends-nil, Appends-trans}
use Rattle.text.specs.Chars.{chars}
use Rattle.text.specs.Position.{on_boundary}
use Rattle.token.specs.Lists.{Lists}
use Rattle.lexer.specs.declared.Scan.{Scan}
use Rattle.lexer.specs.Checked.{Checked}
use Rattle.lexer.specs.Steps.{start_of, next_of}
use Rattle.lexer.specs.Ready.{Lined}
use Rattle.lexer.proofs.Walks.{begins_on, char_there, next_edged, next_records, fewer, next_lined, start_lined, records_end, none_from}
use Rattle.puts.specs.Put.{PutFew}
use Rattle.puts.specs.Joined.{joined}
use Rattle.puts.proofs.Puts.{put_length, put_take}
use Rattle.lines.specs.declared.Chunk.{Chunk}
use Rattle.lines.specs.Filled.{Filled}
use Rattle.lines.specs.Lines.{lines_of, lines_from}
use Rattle.printing.specs.Said.{feeds_line, lined_past}
use Rattle.printing.specs.Written.{Written}

-- nothing was written
pub written_none : (a : Option (List ℕ)) (all : List ℕ) → Written a a all all
written_none a all = record { wrote = []; grown = Appends-nil a; whole = refl }

-- a part of what is left was written
pub written_more : (a b c : Option (List ℕ)) (part left rest all : List ℕ) → Written a b rest all → Appends b c part → part ++ left ≡ rest → Written a c left all
written_more a b c part left rest all w p e = record {
  wrote = w.wrote ++ part;
  grown = Appends-trans a b c w.wrote part w.grown p;
  whole = append_assoc w.wrote part left ∙ ap (λ (l : List ℕ). w.wrote ++ l) e ∙ w.whole;
}

-- nothing is left
pub written_all : (a b : Option (List ℕ)) (left all : List ℕ) → Written a b left all → left ≡ [] → Appends a b all
written_all a b left all w e = subst (Appends a b) (sym (append-nil w.wrote) ∙ ap (λ (l : List ℕ). w.wrote ++ l) (sym e) ∙ w.whole) w.grown

-- of what is left the front was written, but for a part of it
pub written_front : (a b c : Option (List ℕ)) (front left rest all : List ℕ) → Written a b (front ++ rest) all → Written b c left front → Written a c (left ++ rest) all
written_front a b c front left rest all w v =
    written_more a b c v.wrote (left ++ rest) (front ++ rest) all w v.grown (sym (append_assoc v.wrote left rest) ∙ ap (λ (l : List ℕ). l ++ rest) v.whole)

module _ {L : Lists} {s o p : List ℕ} {at : ℕ} {r : Chunk} (f : Filled L s at o p r) where
  pub part_written : (a b c : Option (List ℕ)) (all : List ℕ) → Written a b (lines_from L s at) all → Appends b c (take r.used p) → Written a c (lines_from L s r.next) all
  part_written a b c all w e = written_more a b c (take r.used p) (lines_from L s r.next) (lines_from L s at) all w e f.lines

  pub parts_written : (a b : Option (List ℕ)) (all : List ℕ) → r.next ≡ at → Written a b (lines_from L s at) all → Appends a b all
  parts_written a b all e w = written_all a b (lines_from L s at) all w (ap lines_of (none_from L s at false (f.ended e)))

-- LINES SO FAR, each with its line feeds: the scan is on a boundary and has its line, and what is used of the room lies in it
pub record Saying (L : Lists) (s out : List ℕ) (used : ℕ) (c : Scan) : Type 0 where
  pub edged : on_boundary s c.next ≡ true
  pub checked : Checked s L
  pub lined : Lined s c
  pub room : 16384 ≡ length out
  pub within : used ≤ length out

pub saying_none : {L : Lists} {s out : List ℕ} {on : Bool} {c : Scan} → Checked s L → 16384 ≡ length out → c ≡ start_of on → Saying L s out 0 c
saying_none {s = s} {on = on} k r e = rw e (record { edged = begins_on (chars s); checked = k; lined = start_lined {on = on} k.fits refl; room = r; within = omega arith })

pub lined_none : {L : Lists} {s out : List ℕ} {on : Bool} {c : Scan} {a : Option (List ℕ)} → Checked s L → 16384 ≡ length out → c ≡ start_of on
    → Saying L s out 0 c × Written a a (take 0 out ++ lined_past L s c) (lined_past L s (start_of on))
lined_none {L = L} {s = s} {on = on} {a = a} k r e = (saying_none {on = on} k r e, subst (λ (d : Scan). Written a a (lined_past L s d) (lined_past L s (start_of on))) (sym e) (written_none a (lined_past L s (start_of on))))

module _ {L : Lists} {s out : List ℕ} {used : ℕ} {c x : Scan} (m : Saying L s out used c) (e : x ≡ next_of L s c) where
  pub saying_less : c.next < length s → length (chars (drop x.next s)) < length (chars (drop c.next s))
  saying_less l = fewer L s c e (char_there s c.next m.checked.well m.edged l)

  pub saying_on : {b p : List ℕ} {at r : ℕ} → PutFew 44 b out at p r → Saying L s p r x
  saying_on u = record {
    edged = next_edged L s c e m.edged;
    checked = m.checked;
    lined = next_lined L s c e m.lined;
    room = m.room ∙ sym (put_length u.put);
    within = omega (arith, put_length u.put, u.put.room);
  }

  -- the room was emptied, or not, and the line of the next token put into it
  pub saying_more : (a b d : Option (List ℕ)) (p all : List ℕ) (free r : ℕ) → c.next < length s
      → Written a b (take used out ++ lined_past L s c) all → Written b d (take free out) (take used out)
      → PutFew 44 (feeds_line x.token) out free p r → Written a d (take r p ++ lined_past L s x) all
  saying_more a b d p all free r l w v u =
      let there = char_there s c.next m.checked.well m.edged l in
      let step : lined_past L s c ≡ feeds_line x.token ++ lined_past L s x = ap (joined feeds_line) (next_records L s c e there) in
      let on = written_front a b d (take used out) (take free out) (feeds_line x.token ++ lined_past L s x) all (subst (λ (t : List ℕ). Written a b (take used out ++ t) all) step w) v in
      subst (λ (t : List ℕ). Written a d t all) (sym (append_assoc (take free out) (feeds_line x.token) (lined_past L s x)) ∙ ap (λ (t : List ℕ). t ++ lined_past L s x) (sym (put_take u.put))) on

-- all tokens were put
pub saying_all : (L : Lists) (s out : List ℕ) (used : ℕ) (c : Scan) (a b d : Option (List ℕ)) (all : List ℕ) → length s ≤ c.next
    → Written a b (take used out ++ lined_past L s c) all → Appends b d (take used out) → Appends a d all
saying_all L s out used c a b d all h w p = written_all a d (lined_past L s c) all (written_more a b d (take used out) (lined_past L s c) (take used out ++ lined_past L s c) all w p refl) (ap (joined feeds_line) (records_end L s c h))

-- and where the last write succeeded
pub saying_end : (L : Lists) (s out : List ℕ) (used : ℕ) (c : Scan) {X E : Type 0} (r : Result X E) (a b d : Option (List ℕ)) (all : List ℕ) → length s ≤ c.next
    → Written a b (take used out ++ lined_past L s c) all → OnOk r (Appends b d (take used out)) → OnOk r (Appends a d all)
saying_end L s out used c (Ok x) a b d all h w p = saying_all L s out used c a b d all h w p
saying_end L s out used c (Err x) a b d all h w p = p
