-- The call: what one pass finds says what the definition says, and the runs hold the lists of the file.
use Prim.Native.Nat.{ℕ, ◌+◌, ◌*◌, ◌/◌, ◌≤◌}
use mathlib.Core.Path.{◌≡◌, refl, sym, ap, ◌∙◌}
use mathlib.Core.Bool.{Bool, true, false}
use mathlib.Core.List.{List, [], ◌∷◌, ◌++◌, append_assoc, append-nil}
use borrow.Author.Tests.{ltb-false}
use lib.Dec.{ltb}
use lib.ListN.{length, take, drop, length-append}
use lib.Seq.{take_at, drop_at, drop-drop}
use native.Mathlib.Omega.{arith}
use Rattle.basics.specs.Choice.{pick}
use Rattle.fields.specs.Pieces.{piece}
use Rattle.fields.proofs.Cuts.{Front, front}
use Rattle.std.specs.Prelude.{Result, Ok, Err}
use Rattle.refusal.specs.Verdict.{Verdict, fine}
use Rattle.refusal.specs.Order.{refused_or}
use Rattle.ranges.specs.Rules.{flaw, list_verdict}
use Rattle.token.specs.Lists.{Lists}
use Rattle.lists_file.specs.declared.Version.{Version}
use Rattle.lists_file.specs.File.{first_text, line, group_lines, file_of, Pairs, no_pair, pair, ListsFit}
use Rattle.lists_file.specs.Load.{Read, loaded, bad_line, load}
use Rattle.lists_file.specs.Verdicts.{lists_verdict}
use Rattle.lists_file.proofs.Texts.{first_unmarked}
use Rattle.lists_file.proofs.RoundTrip.{Holds, holds}
use Rattle.lists_in.specs.declared.Each.{Each}
use Rattle.lists_in.specs.declared.Found.{Found}
use Rattle.lists_in.specs.declared.Held.{Held}
use Rattle.lists_in.specs.declared.ReadRefusal.{ReadRefusal}
use Rattle.lists_in.specs.declared.ReadRefusal.TheVariants.{Line, Room}
use Rattle.lists_in.specs.Tallies.{tallies_of}
use Rattle.lists_in.specs.Surveys.{found, surveyed}
use Rattle.lists_in.specs.Fills.{FillRoom, Put, Filled}
use Rattle.lists_in.specs.Answers.{ReadAnswer, shared, counts, counts_of, held_of, roomed_for, read_of, run_after, lists_in, Reading, judged_of}

-- the verdicts on what is kept of the lists are those on the lists
same_judgement : (limit : ℕ) (v : Version) (from : ℕ) (L : Lists) (rooms : Each ℕ) → judged_of limit (found v from (tallies_of L)) rooms ≡ refused_or shared (lists_verdict limit L) (roomed_for v (counts_of L) rooms)
unfolding list_verdict flaw
same_judgement limit v from L rooms = refl

-- EVERYTHING IS READY: the file holds these lists, their records begin at the place that was found, and each run has room for its list
pub record Ready (s : List ℕ) (f : Found) (h : Held) (a b c : ℕ) : Type 0 where
  pub version : Version
  pub lists : Lists
  pub loads : load s ≡ loaded version lists
  pub held : h ≡ held_of version (counts_of lists)
  pub starts_room : length lists.starts ≤ a
  pub continues_room : length lists.continues ≤ b
  pub emoji_room : length lists.emoji ≤ c
  pub fit : ListsFit lists
  pub within : f.from ≤ length s
  pub lines : drop f.from s ≡ group_lines 0 lists.starts ++ (group_lines 1 lists.continues ++ group_lines 2 lists.emoji)

-- what is found in a file says what it holds
pub record Loads (s : List ℕ) (from : ℕ) (f : Found) : Type 0 where
  pub version : Version
  pub lists : Lists
  pub loads : load s ≡ loaded version lists
  pub finds : f ≡ found version from (tallies_of lists)

bad_by : (from : ℕ) (q : Read) {index : ℕ} → surveyed from q ≡ Err index → q ≡ bad_line index
bad_by from (loaded v L) e = absurd (cc)
bad_by from (bad_line k) e = cc

good_by : (s : List ℕ) (from : ℕ) (q : Read) → load s ≡ q → {f : Found} → surveyed from q ≡ Ok f → Loads s from f
good_by s from (loaded v L) l e = record { version = v; lists = L; loads = l; finds = cc }
good_by s from (bad_line k) l e = absurd (cc)

-- there is room for each list
record Roomed (v : Version) (n rooms : Each ℕ) (h : Held) : Type 0 where
  starts : n.starts ≤ rooms.starts
  continues : n.continues ≤ rooms.continues
  emoji : n.emoji ≤ rooms.emoji
  held : h ≡ held_of v n

room_told : (v : Version) (n rooms : Each ℕ) {h : Held} → roomed_for v n rooms ≡ Ok h → Roomed v n rooms h
room_told v n rooms {h} e = by_tests (ltb rooms.starts n.starts) refl (ltb rooms.continues n.continues) refl (ltb rooms.emoji n.emoji) refl e
  where
    by_tests : (t : Bool) → ltb rooms.starts n.starts ≡ t → (u : Bool) → ltb rooms.continues n.continues ≡ u → (w : Bool) → ltb rooms.emoji n.emoji ≡ w
        → pick t (Err (Room 0 n.starts)) (pick u (Err (Room 1 n.continues)) (pick w (Err (Room 2 n.emoji)) (Ok (held_of v n)))) ≡ Ok h → Roomed v n rooms h
    by_tests true p u q w r k = absurd (cc)
    by_tests false p true q w r k = absurd (cc)
    by_tests false p false q true r k = absurd (cc)
    by_tests false p false q false r k = record { starts = ltb-false _ _ p; continues = ltb-false _ _ q; emoji = ltb-false _ _ r; held = cc }

-- the records of a file stand past its first line
abbrev body : Lists → List ℕ
body L = group_lines 0 L.starts ++ (group_lines 1 L.continues ++ group_lines 2 L.emoji)

record Laid (s : List ℕ) (L : Lists) : Type 0 where
  within : length (piece 10 s) + 1 ≤ length s
  lines : drop (length (piece 10 s) + 1) s ≡ body L

laid : (s : List ℕ) {v : Version} {L : Lists} → Holds s v L → Laid s L
unfolding file_of
laid s {v} {L} h =
    let f : Front 10 (first_text v) (body L) = front 10 (first_text v) (body L) (first_unmarked v) in
    let e : s ≡ first_text v ++ (10 ∷ body L) = h.same ∙ append_assoc (first_text v) (10 ∷ []) (body L) in
    let p : piece 10 s ≡ first_text v = ap (piece 10) e ∙ f.before in
    let n : length (piece 10 s) + 1 ≡ length (line (first_text v)) = ap (λ (x : List ℕ). length x + 1) p ∙ sym (length-append (first_text v) (10 ∷ [])) in
    record {
      within = omega (arith, ap length h.same, length-append (line (first_text v)) (body L));
      lines = ap (drop (length (piece 10 s) + 1)) h.same ∙ drop_at (line (first_text v)) (body L) (length (piece 10 s) + 1) (sym n);
    }

module _ (s : List ℕ) (from : ℕ) {x : Result Found ℕ} (p : x ≡ surveyed from (load s)) where
  -- WHERE A LINE IS BAD
  pub read_bad_line : (limit : ℕ) (a b c : List ℕ) {r : ReadAnswer} → ((index : ℕ) → x ≡ Err index → r ≡ Err (Line index)) → ((f : Found) → x ≡ Ok f → ⊥) → Reading limit s a b c a b c r
  read_bad_line limit a b c {r} bad good = by_case x refl
    where
      by_case : (y : Result Found ℕ) → x ≡ y → Reading limit s a b c a b c r
      by_case (Ok f) e = absurd (good f e)
      by_case (Err index) e =
          let l : load s ≡ bad_line index = bad_by from (load s) (sym p ∙ e) in
          rw (bad index e) (record { answer = sym (ap (read_of limit (counts (length a) (length b) (length c))) l); starts_hold = refl; continues_hold = refl; emoji_hold = refl })

  -- WHERE EVERY LINE IS GOOD
  module _ {f : Found} (e : x ≡ Ok f) where
    pub read_loads : Loads s from f
    read_loads = good_by s from (load s) refl (sym p ∙ e)

    -- what is judged of it is the answer
    pub judged_so : (limit a b c : ℕ) {r : ReadAnswer} → r ≡ judged_of limit f (counts a b c) → r ≡ read_of limit (counts a b c) (load s)
    judged_so limit a b c j =
        let d : Loads s from f = read_loads in
        j ∙ ap (λ (y : Found). judged_of limit y (counts a b c)) d.finds ∙ same_judgement limit d.version from d.lists (counts a b c) ∙ sym (ap (read_of limit (counts a b c)) d.loads)

    -- a refusal leaves the runs as they were
    pub read_refused : (limit : ℕ) (a b c : List ℕ) {why : ReadRefusal} {r : ReadAnswer} → Err why ≡ judged_of limit f (counts (length a) (length b) (length c)) → r ≡ Err why → Reading limit s a b c a b c r
    read_refused limit a b c j t = rw t (record { answer = judged_so limit (length a) (length b) (length c) j; starts_hold = refl; continues_hold = refl; emoji_hold = refl })

    -- DONE: what is held, and that there is room for it
    module _ (limit a b c : ℕ) {h : Held} (j : Ok h ≡ judged_of limit f (counts a b c)) (g : from ≡ length (piece 10 s) + 1) where
      pub read_ready : Ready s f h a b c
      read_ready =
          let d : Loads s from f = read_loads in
          ready_by d (lists_verdict limit d.lists) (sym (same_judgement limit d.version from d.lists (counts a b c)) ∙ sym (ap (λ (y : Found). judged_of limit y (counts a b c)) d.finds) ∙ sym j)
        where
          ready_by : (d : Loads s from f) (v : Verdict) → refused_or shared v (roomed_for d.version (counts_of d.lists) (counts a b c)) ≡ Ok h → Ready s f h a b c
          ready_by d (Ok tt) k =
              let m : Roomed d.version (counts_of d.lists) (counts a b c) h = room_told d.version (counts_of d.lists) (counts a b c) k in
              let n : Laid s d.lists = laid s (holds s d.loads) in
              let o : f.from ≡ length (piece 10 s) + 1 = ap (λ (y : Found). y.from) d.finds ∙ g in
              record {
                version = d.version;
                lists = d.lists;
                loads = d.loads;
                held = m.held;
                starts_room = m.starts;
                continues_room = m.continues;
                emoji_room = m.emoji;
                fit = (holds s d.loads).fit;
                within = omega (arith, n.within);
                lines = ap (λ (y : ℕ). drop y s) o ∙ n.lines;
              }
          ready_by d (Err bad) k = absurd (cc)

-- THE THREE RUNS, one after the other
module _ {s : List ℕ} {f : Found} {h : Held} {ra rb rc : ℕ} (y : Ready s f h ra rb rc) where
  even : {l : List ℕ} → Pairs l → length l ≡ length l / 2 * 2
  even no_pair = refl
  even (pair {l = l} u v w) = omega (arith, even w)

  counted : (h.starts ≡ length y.lists.starts) × ((h.continues ≡ length y.lists.continues) × (h.emoji ≡ length y.lists.emoji))
  counted = (ap (λ (x : Held). x.starts) y.held, (ap (λ (x : Held). x.continues) y.held, ap (λ (x : Held). x.emoji) y.held))

  starts_even : length y.lists.starts ≡ h.starts / 2 * 2
  starts_even = even y.fit.starts ∙ ap (λ (n : ℕ). n / 2 * 2) (sym counted.0)

  continues_even : length y.lists.continues ≡ h.continues / 2 * 2
  continues_even = even y.fit.continues ∙ ap (λ (n : ℕ). n / 2 * 2) (sym counted.1.0)

  emoji_even : length y.lists.emoji ≡ h.emoji / 2 * 2
  emoji_even = even y.fit.emoji ∙ ap (λ (n : ℕ). n / 2 * 2) (sym counted.1.1)

  pub starts_fit : {a : List ℕ} → ra ≤ length a → FillRoom s f.from (h.starts / 2) a
  starts_fit k = record { within = y.within; room = omega (arith, starts_even, y.starts_room) }

  module _ {a a' : List ℕ} {m : ℕ} (p : Filled s f.from (h.starts / 2) a a' m) where
    pub continues_fit : {b : List ℕ} → rb ≤ length b → FillRoom s m (h.continues / 2) b
    continues_fit k = record { within = p.within; room = omega (arith, continues_even, y.continues_room) }

    starts_put : Put y.lists.starts a a' f.from 0 m
    starts_put = p.put 0 y.lists.starts _ (record { list = omega arith; pairs = y.fit.starts; lines = y.lines }) starts_even

    past_starts : drop m s ≡ group_lines 1 y.lists.continues ++ group_lines 2 y.lists.emoji
    past_starts =
        ap (λ (n : ℕ). drop n s) starts_put.next ∙ sym (drop-drop (length (group_lines 0 y.lists.starts)) f.from s)
        ∙ ap (drop (length (group_lines 0 y.lists.starts))) y.lines ∙ drop_at (group_lines 0 y.lists.starts) _ _ refl

    module _ {b b' : List ℕ} {n : ℕ} (q : Filled s m (h.continues / 2) b b' n) where
      pub emoji_fit : {c : List ℕ} → rc ≤ length c → FillRoom s n (h.emoji / 2) c
      emoji_fit k = record { within = q.within; room = omega (arith, emoji_even, y.emoji_room) }

      continues_put : Put y.lists.continues b b' m 1 n
      continues_put = q.put 1 y.lists.continues _ (record { list = omega arith; pairs = y.fit.continues; lines = past_starts }) continues_even

      past_continues : drop n s ≡ group_lines 2 y.lists.emoji ++ []
      past_continues =
          ap (λ (k : ℕ). drop k s) continues_put.next ∙ sym (drop-drop (length (group_lines 1 y.lists.continues)) m s)
          ∙ ap (drop (length (group_lines 1 y.lists.continues))) past_starts ∙ drop_at (group_lines 1 y.lists.continues) _ _ refl ∙ sym (append-nil (group_lines 2 y.lists.emoji))

      -- WHAT THE RUNS HOLD
      pub read_done : (limit : ℕ) {c c' : List ℕ} {o : ℕ} → Filled s n (h.emoji / 2) c c' o → Ok h ≡ read_of limit (counts (length a) (length b) (length c)) (load s) → Reading limit s a b c a' b' c' (Ok h)
      read_done limit {c} {c'} {o} r e =
          let emoji_put : Put y.lists.emoji c c' n 2 o = r.put 2 y.lists.emoji [] (record { list = omega arith; pairs = y.fit.emoji; lines = past_continues }) emoji_even in
          let l : y.lists ≡ lists_in (load s) = sym (ap lists_in y.loads) in
          record {
            answer = e;
            starts_hold = starts_put.holds ∙ ap (λ (x : Lists). x.starts ++ drop (length x.starts) a) l;
            continues_hold = continues_put.holds ∙ ap (λ (x : Lists). x.continues ++ drop (length x.continues) b) l;
            emoji_hold = emoji_put.holds ∙ ap (λ (x : Lists). x.emoji ++ drop (length x.emoji) c) l;
          }

-- WHAT IS DONE where something was loaded: the file holds the version and the lists, which keep the rules and are in the runs
pub record Done (limit : ℕ) (s starts continues emoji : List ℕ) (h : Held) : Type 0 where
  pub lists : Lists
  pub loads : load s ≡ loaded h.version lists
  pub rules : lists_verdict limit lists ≡ fine
  pub starts_are : take h.starts starts ≡ lists.starts
  pub continues_are : take h.continues continues ≡ lists.continues
  pub emoji_are : take h.emoji emoji ≡ lists.emoji

record Full (limit : ℕ) (q : Read) (h : Held) : Type 0 where
  lists : Lists
  loads : q ≡ loaded h.version lists
  rules : lists_verdict limit lists ≡ fine
  held : h ≡ held_of h.version (counts_of lists)

full_by : (limit : ℕ) (rooms : Each ℕ) (q : Read) {h : Held} → read_of limit rooms q ≡ Ok h → Full limit q h
full_by limit rooms (bad_line k) e = absurd (cc)
full_by limit rooms (loaded v L) {h} e = by_verdict (lists_verdict limit L) refl e
  where
    by_verdict : (x : Verdict) → lists_verdict limit L ≡ x → refused_or shared x (roomed_for v (counts_of L) rooms) ≡ Ok h → Full limit (loaded v L) h
    by_verdict (Ok tt) f k =
        let m : h ≡ held_of v (counts_of L) = (room_told v (counts_of L) rooms k).held in
        let u : v ≡ h.version = sym (ap (λ (y : Held). y.version) m) in
        record { lists = L; loads = ap (λ (y : Version). loaded y L) u; rules = f; held = m ∙ ap (λ (y : Version). held_of y (counts_of L)) u }
    by_verdict (Err bad) f k = absurd (cc)

pub read_done_told : {limit : ℕ} {s a b c starts continues emoji : List ℕ} {h : Held} → Reading limit s a b c starts continues emoji (Ok h) → Done limit s starts continues emoji h
read_done_told {limit} {s} {a} {b} {c} {h = h} f =
    let d : Full limit (load s) h = full_by limit (counts (length a) (length b) (length c)) (load s) (sym f.answer) in
    let l : lists_in (load s) ≡ d.lists = ap lists_in d.loads in
    record {
      lists = d.lists;
      loads = d.loads;
      rules = d.rules;
      starts_are = ap (take h.starts) (f.starts_hold ∙ ap (λ (y : Lists). y.starts ++ drop (length y.starts) a) l) ∙ take_at d.lists.starts _ h.starts (sym (ap (λ (y : Held). y.starts) d.held));
      continues_are = ap (take h.continues) (f.continues_hold ∙ ap (λ (y : Lists). y.continues ++ drop (length y.continues) b) l) ∙ take_at d.lists.continues _ h.continues (sym (ap (λ (y : Held). y.continues) d.held));
      emoji_are = ap (take h.emoji) (f.emoji_hold ∙ ap (λ (y : Lists). y.emoji ++ drop (length y.emoji) c) l) ∙ take_at d.lists.emoji _ h.emoji (sym (ap (λ (y : Held). y.emoji) d.held));
    }

-- WHAT WAS LOADED lies within the runs
pub record Lies (h : Held) (a b c : List ℕ) : Type 0 where
  pub in_starts : h.starts ≤ length a
  pub in_continues : h.continues ≤ length b
  pub in_emoji : h.emoji ≤ length c

pub loaded_lies : {limit : ℕ} {s a b c starts continues emoji : List ℕ} {r : ReadAnswer} {h : Held} → Reading limit s a b c starts continues emoji r → r ≡ Ok h → Lies h starts continues emoji
loaded_lies {limit} {s} {a} {b} {c} {h = h} f q =
    let d : Full limit (load s) h = full_by limit (counts (length a) (length b) (length c)) (load s) {h = h} (sym f.answer ∙ q) in
    let L : Lists = lists_in (load s) in
    let l : d.lists ≡ L = sym (ap lists_in d.loads) in
    let n : h ≡ held_of h.version (counts_of L) = d.held ∙ ap (λ (y : Lists). held_of h.version (counts_of y)) l in
    let x = f.starts_hold ∙ ap (λ (y : ReadAnswer). run_after y L.starts a) q in
    let y = f.continues_hold ∙ ap (λ (z : ReadAnswer). run_after z L.continues b) q in
    let z = f.emoji_hold ∙ ap (λ (w : ReadAnswer). run_after w L.emoji c) q in
    record {
      in_starts = omega (arith, ap (λ (w : Held). w.starts) n, ap length x, length-append L.starts (drop (length L.starts) a));
      in_continues = omega (arith, ap (λ (w : Held). w.continues) n, ap length y, length-append L.continues (drop (length L.continues) b));
      in_emoji = omega (arith, ap (λ (w : Held). w.emoji) n, ap length z, length-append L.emoji (drop (length L.emoji) c));
    }
