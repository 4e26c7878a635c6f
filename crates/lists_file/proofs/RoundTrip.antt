-- WRITTEN AND READ: the file of a version and lists loads as them, and what loads is the file of what it loads as.
use Prim.Native.Nat.{ℕ, zero, suc, ◌≤◌, ◌<◌}
use mathlib.Core.Path.{◌≡◌, refl, sym, ap, subst, ◌∙◌}
use mathlib.Core.List.{List, [], ◌∷◌, ◌++◌, append_assoc, append-nil}
use native.Mathlib.Omega.{arith}
use Rattle.token.specs.Lists.{Lists, none}
use Rattle.fields.specs.Pieces.{Parted, parts, parted}
use Rattle.fields.proofs.Cuts.{whole, parted_whole}
use Rattle.lists_file.specs.declared.Version.{Version}
use Rattle.lists_file.specs.declared.Entry.{Entry}
use Rattle.lists_file.specs.Names.{newline}
use Rattle.lists_file.specs.File.{first_text, record_text, line, group_lines, file_of, VersionFits, Pairs, no_pair, pair, ListsFit, IsFile}
use Rattle.lists_file.specs.Load.{loaded, bad_line, added, load_from, load_lines, load, load_at}
use Rattle.lists_file.proofs.Texts.{RecordSays, record_says, version_back, VersionSays, version_says, first_unmarked}
use Rattle.lists_file.proofs.Loads.{load_end, parted_line, Step, stops, goes_on, step, FirstStep, first_stops, first_goes_on, first_step, extended, Passed, load_group}

-- all the records of lists
abbrev body : Lists → List ℕ
body L = group_lines 0 L.starts ++ (group_lines 1 L.continues ++ group_lines 2 L.emoji)

emoji_back : (index group : ℕ) (v : Version) (A : Lists) (e : List ℕ) → Pairs e → group ≤ 2 → load_at index group v A (group_lines 2 e) ≡ loaded v (extended 2 e A)
emoji_back index group v A e q h = by_steps (load_group index group v A 2 e [] q (omega arith) h)
  where
    by_steps : Passed index group v A 2 e [] → load_at index group v A (group_lines 2 e) ≡ loaded v (extended 2 e A)
    by_steps k = ap (load_at index group v A) (sym (append-nil (group_lines 2 e))) ∙ k.goes ∙ load_end k.next k.last v (extended 2 e A)

continue_back : (index group : ℕ) (v : Version) (A : Lists) (c e : List ℕ) → Pairs c → Pairs e → group ≤ 1
    → load_at index group v A (group_lines 1 c ++ group_lines 2 e) ≡ loaded v (extended 2 e (extended 1 c A))
continue_back index group v A c e p q h = by_steps (load_group index group v A 1 c (group_lines 2 e) p (omega arith) h)
  where
    by_steps : Passed index group v A 1 c (group_lines 2 e) → load_at index group v A (group_lines 1 c ++ group_lines 2 e) ≡ loaded v (extended 2 e (extended 1 c A))
    by_steps k = k.goes ∙ emoji_back k.next k.last v (extended 1 c A) e q (omega (arith, k.small))

body_back : (v : Version) (L : Lists) → ListsFit L → load_at 1 0 v none (body L) ≡ loaded v L
body_back v L f = by_steps (load_group 1 0 v none 0 L.starts (group_lines 1 L.continues ++ group_lines 2 L.emoji) f.starts (omega arith) (omega arith))
  where
    by_steps : Passed 1 0 v none 0 L.starts (group_lines 1 L.continues ++ group_lines 2 L.emoji) → load_at 1 0 v none (body L) ≡ loaded v L
    by_steps k = k.goes ∙ continue_back k.next k.last v (extended 0 L.starts none) L.continues L.emoji f.continues f.emoji (omega (arith, k.small))

-- WHAT WAS WRITTEN READS BACK as it was.
pub reads_back : (v : Version) (L : Lists) → VersionFits v → ListsFit L → load (file_of v L) ≡ loaded v L
unfolding load file_of
reads_back v L f g =
    ap (λ (q : Parted). load_lines q.ended q.rest) (parted_line (first_text v) (body L) (first_unmarked v))
    ∙ rw (version_back v f, load_lines) (body_back v L g)

-- ONE PAIR MORE at the end of a list is one line more at the end of its group
group_snoc : (which low high : ℕ) (l : List ℕ) → Pairs l → group_lines which (l ++ (low ∷ high ∷ [])) ≡ group_lines which l ++ line (record_text which low high)
unfolding group_lines
group_snoc which low high [] no_pair = append-nil (line (record_text which low high))
group_snoc which low high (a ∷ []) p = elim p [ ]
group_snoc which low high (a ∷ b ∷ l) (pair h k p) =
    ap (λ (s : List ℕ). line (record_text which a b) ++ s) (group_snoc which low high l p)
    ∙ sym (append_assoc (line (record_text which a b)) (group_lines which l) (line (record_text which low high)))

pairs_snoc : {low high : ℕ} {l : List ℕ} → low ≤ 0xFFFFFF → high ≤ 0xFFFFFF → Pairs l → Pairs (l ++ (low ∷ high ∷ []))
pairs_snoc a b no_pair = pair a b no_pair
pairs_snoc a b (pair h k p) = pair h k (pairs_snoc a b p)

-- the lists read so far, the last record being of list `group`: they fit, and there is nothing in the later lists
record Grown (group : ℕ) (A : Lists) : Type 0 where
  fit : ListsFit A
  second : group < 1 → A.continues ≡ []
  third : group < 2 → A.emoji ≡ []

record More (which low high : ℕ) (A : Lists) : Type 0 where
  grown : Grown which (added which low high A)
  longer : body (added which low high A) ≡ body A ++ line (record_text which low high)

more : (group which low high : ℕ) (A : Lists) → Grown group A → group ≤ which → which ≤ 2 → low ≤ 0xFFFFFF → high ≤ 0xFFFFFF → More which low high A
unfolding group_lines
more group zero low high A g h w a b =
    let c : A.continues ≡ [] = g.second (omega arith) in
    let e : A.emoji ≡ [] = g.third (omega arith) in
    record {
      grown = record { fit = record { starts = pairs_snoc a b g.fit.starts; continues = g.fit.continues; emoji = g.fit.emoji }; second = λ _. c; third = λ _. e };
      longer = rw (c, e, group_snoc 0 low high A.starts g.fit.starts) (simp append-nil);
    }
more group (suc zero) low high A g h w a b =
    let e : A.emoji ≡ [] = g.third (omega arith) in
    record {
      grown = record { fit = record { starts = g.fit.starts; continues = pairs_snoc a b g.fit.continues; emoji = g.fit.emoji }; second = λ (l : 1 < 1). absurd (omega arith); third = λ _. e };
      longer = rw (e, group_snoc 1 low high A.continues g.fit.continues) (simp (append-nil, append_assoc));
    }
more group (suc (suc zero)) low high A g h w a b =
    record {
      grown = record { fit = record { starts = g.fit.starts; continues = g.fit.continues; emoji = pairs_snoc a b g.fit.emoji }; second = λ (l : 2 < 1). absurd (omega arith); third = λ (l : 2 < 2). absurd (omega arith) };
      longer = rw (group_snoc 2 low high A.emoji g.fit.emoji) (simp append_assoc);
    }
more group (suc (suc (suc n))) low high A g h w a b = absurd (omega arith)

-- WHAT THE READER ACCEPTS, from lists that it read so far, A, on: their records and the lines make up the records of what it loaded
record Accepted (v : Version) (A : Lists) (lines : List (List ℕ)) (rest : List ℕ) (w : Version) (L : Lists) : Type 0 where
  version : v ≡ w
  fit : ListsFit L
  made : body A ++ whole newline (parts lines rest) ≡ body L

regrouped : (a b c d : List ℕ) → a ++ ((b ++ c) ++ d) ≡ (a ++ b) ++ (c ++ d)
regrouped a b c d = simp append_assoc

accepted : (index group : ℕ) (v : Version) (A : Lists) (lines : List (List ℕ)) (rest : List ℕ) {w : Version} {L : Lists}
    → Grown group A → load_from index group v A lines rest ≡ loaded w L → Accepted v A lines rest w L
unfolding load_from
accepted index group v A [] [] {w} {L} g q =
    let o : A ≡ L = cc in
    record { version = cc; fit = subst ListsFit o g.fit; made = append-nil (body A) ∙ ap body o }
accepted index group v A [] (c ∷ rest) g q = absurd (cc)
accepted index group v A (text ∷ lines) rest {w} {L} g q = by_step (step index group v A text) (λ (e : Entry). accepted (suc index) e.which v (added e.which e.low e.high A) lines rest)
  where
    by_step : Step index group v A text
        → ((e : Entry) → Grown e.which (added e.which e.low e.high A)
        → load_from (suc index) e.which v (added e.which e.low e.high A) lines rest ≡ loaded w L
        → Accepted v (added e.which e.low e.high A) lines rest w L)
        → Accepted v A (text ∷ lines) rest w L
    by_step (stops b) ih = let z : ◌≡◌ {A = ℕ} 0 1 = cc (b lines rest) in absurd (omega arith)
    by_step (goes_on e r h b) ih =
        let s : RecordSays text e = record_says text r in
        let m : More e.which e.low e.high A = more group e.which e.low e.high A g h s.which s.low s.high in
        let k : Accepted v (added e.which e.low e.high A) lines rest w L = ih e m.grown (sym (b lines rest) ∙ q) in
        record {
          version = k.version;
          fit = k.fit;
          made =
              regrouped (body A) (line text) _ rest
              ∙ ap (λ (x : List ℕ). x ++ whole newline (parts lines rest)) (ap (λ (x : List ℕ). body A ++ line x) s.written ∙ sym m.longer)
              ∙ k.made;
        }

pub record Holds (s : List ℕ) (v : Version) (L : Lists) : Type 0 where
  pub same : s ≡ file_of v L
  pub fits : VersionFits v
  pub fit : ListsFit L

holds_parts : (lines : List (List ℕ)) (rest : List ℕ) {v : Version} {L : Lists} → load_lines lines rest ≡ loaded v L → Holds (whole newline (parts lines rest)) v L
unfolding file_of group_lines
holds_parts [] rest q = absurd (cc)
holds_parts (text ∷ lines) rest {v} {L} q = by_step (first_step text)
  where
    by_step : FirstStep text → Holds (whole newline (parts (text ∷ lines) rest)) v L
    by_step (first_stops b) = let z : ◌≡◌ {A = ℕ} 0 1 = cc (b lines rest) in absurd (omega arith)
    by_step (first_goes_on u r b) =
        let g : Grown 0 none = record { fit = record { starts = no_pair; continues = no_pair; emoji = no_pair }; second = λ _. refl; third = λ _. refl } in
        let k : Accepted u none lines rest v L = accepted 1 0 u none lines rest g (sym (b lines rest) ∙ q) in
        let s : VersionSays text u = version_says text r in
        record {
          same = append_assoc (line text) _ rest ∙ ap (λ (x : List ℕ). line text ++ x) k.made ∙ rw (s.written, k.version) refl;
          fits = subst VersionFits k.version s.fits;
          fit = k.fit;
        }

-- WHAT THE READER ACCEPTS is what is written for what it loaded.
pub holds : (s : List ℕ) {v : Version} {L : Lists} → load s ≡ loaded v L → Holds s v L
unfolding load
holds s {v} {L} q = subst (λ (x : List ℕ). Holds x v L) (parted_whole newline s) (holds_parts (parted newline s).ended (parted newline s).rest q)

-- Two different files never load as the same version and lists.
pub one_file : (s t : List ℕ) {v : Version} {L : Lists} → load s ≡ loaded v L → load t ≡ loaded v L → s ≡ t
one_file s t p q = (holds s p).same ∙ sym (holds t q).same

-- What the reader refuses is no file.
pub no_file : (s : List ℕ) {k : ℕ} → load s ≡ bad_line k → IsFile s → ⊥
no_file s q f =
    let p : load s ≡ loaded f.version f.lists = ap load f.same ∙ reads_back f.version f.lists f.fits f.fit in
    let z : ◌≡◌ {A = ℕ} 0 1 = cc in
    omega arith
