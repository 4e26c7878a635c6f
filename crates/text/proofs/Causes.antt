-- WHY THE BYTES ARE BAD (document 02, W2): what the causes of the rows mean. First of a row: what it has settled stays so whatever follows, what it finds
-- cut can be continued, and before a wrong byte it finds the sequence cut. Then of any place of a text, and of the place at which it is refused.
use Rattle.std.specs.Prelude.{Err}
use Prim.Native.Nat.{ℕ, suc, ◌≤◌, ◌<◌}
use mathlib.Core.Path.{◌≡◌, refl, sym, ap, ◌∙◌}
use mathlib.Core.Bool.{Bool, true, false, true≢false}
use mathlib.Core.List.{List, [], ◌∷◌, ◌++◌}
use mathlib.Core.Logic.{◌⊎◌, inl, inr, ⊎_elim, ◌↔◌}
use borrow.Author.Tests.{eq-eqb}
use lib.Dec.{eqb}
use lib.ListN.{length, get_or, take, drop, length-drop, take-append-drop}
use lib.Seq.{drop-cons, drop-append-le}
use native.Mathlib.Omega.{arith}
use Rattle.basics.specs.Choice.{pick}
use Rattle.basics.specs.Tests.{within, all}
use Rattle.basics.proofs.Choices.{inside_within, and_both, yes_or_no, below_or_not}
use Rattle.refusal.specs.declared.Cause.{Cause}
use Rattle.refusal.specs.declared.Cause.TheVariants.{Start, Cut, Follow}
use Rattle.refusal.specs.declared.Bad.TheVariants.{NotUtf8}
use Rattle.text.specs.declared.Decoded.{Decoded}
use Rattle.text.specs.declared.Decoded.TheVariants.{Char, Ill}
use Rattle.text.specs.Utf8.{byte, value2, value3, value4, two, three, four, lead, decoded}
use Rattle.text.specs.Chars.{chars, size}
use Rattle.text.specs.Verdicts.{cause_of, utf8_verdict}
use Rattle.text.specs.Causes.{CannotStart, Continued, WrongByte}
use Rattle.text.proofs.Bytes.{byte_none, byte_in, byte_out}
use Rattle.text.proofs.Rows.{row_00, row_C2, row_E0, row_E1, row_ED, row_EE, row_F0, row_F1, row_F4, row_none_80, row_none_F5}
use Rattle.text.proofs.Texts.{told}
use Rattle.text.proofs.Stops.{first_ill}
use Rattle.refusal.specs.Verdict.{fine}

-- two answers that are not the same
no_follow_cut : Ill Follow ≡ Ill Cut → ⊥
no_follow_cut e = let z : ◌≡◌ {A = ℕ} 0 1 = cc in omega arith

no_char_ill : {c w : ℕ} {k : Cause} → Char c w ≡ Ill k → ⊥
no_char_ill e = let z : ◌≡◌ {A = ℕ} 0 1 = cc in omega arith

-- A ROW, AS IT JUDGES THE BYTES THAT FOLLOW
record Completed (f : List ℕ → Decoded) (s : List ℕ) : Type 0 where
  more : List ℕ
  bytes : all (within 0x00 0xFF) more ≡ true
  code : ℕ
  width : ℕ
  begins : f (s ++ more) ≡ Char code width

record Turned (f : List ℕ → Decoded) (s : List ℕ) : Type 0 where
  before : ℕ
  room : before < length s
  can : f (take before s) ≡ Ill Cut
  cannot : f (take (suc before) s) ≡ Ill Follow

record Judged (f : List ℕ → Decoded) : Type 0 where
  stays : (s t : List ℕ) → (f s ≡ Ill Cut → ⊥) → f (s ++ t) ≡ f s
  more : (s : List ℕ) → f s ≡ Ill Cut → Completed f s
  wrong : (s : List ℕ) → f s ≡ Ill Follow → Turned f s

-- rows that look at no other byte
judged_char : (c w : ℕ) → Judged (λ (s : List ℕ). Char c w)
judged_char c w = record { stays = λ s t n. refl; more = λ s e. absurd (no_char_ill e); wrong = λ s e. absurd (no_char_ill e) }

judged_start : Judged (λ (s : List ℕ). Ill Start)
judged_start =
    record {
      stays = λ s t n. refl;
      more = λ s e. let z : ◌≡◌ {A = ℕ} 0 1 = cc in absurd (omega arith);
      wrong = λ s e. let z : ◌≡◌ {A = ℕ} 0 1 = cc in absurd (omega arith);
    }

complete_char : (c w : ℕ) → Completed (λ (s : List ℕ). Char c w) []
complete_char c w = record { more = []; bytes = refl; code = c; width = w; begins = refl }

-- a byte that has to come next
module _ (low high : ℕ) (f : ℕ → List ℕ → Decoded) (l : low ≤ high) (h : low ≤ 0xFF) where
  complete_byte : Completed (f low) [] → Completed (λ (s : List ℕ). byte low high s f) []
  complete_byte c =
      record {
        more = low ∷ c.more;
        bytes = and_both (inside_within 0x00 0xFF low (omega arith) h) c.bytes;
        code = c.code;
        width = c.width;
        begins = byte_in low high f low c.more (inside_within low high low (omega arith) l) ∙ c.begins;
      }

  judged_byte : ((b : ℕ) → Judged (f b)) → Completed (f low) [] → Judged (λ (s : List ℕ). byte low high s f)
  judged_byte j c = record { stays = stays; more = more; wrong = wrong }
    where
      stays : (s t : List ℕ) → (byte low high s f ≡ Ill Cut → ⊥) → byte low high (s ++ t) f ≡ byte low high s f
      stays [] t n = absurd (n (byte_none low high f))
      stays (b ∷ s) t n =
          ⊎_elim (λ w. byte_in low high f b (s ++ t) w ∙ (j b).stays s t (λ e. n (byte_in low high f b s w ∙ e)) ∙ sym (byte_in low high f b s w))
          (λ w. byte_out low high f b (s ++ t) w ∙ sym (byte_out low high f b s w)) (yes_or_no (within low high b))

      more : (s : List ℕ) → byte low high s f ≡ Ill Cut → Completed (λ (t : List ℕ). byte low high t f) s
      more [] e = complete_byte c
      more (b ∷ s) e =
          ⊎_elim (λ w. let d = (j b).more s (sym (byte_in low high f b s w) ∙ e) in record { more = d.more; bytes = d.bytes; code = d.code; width = d.width; begins = byte_in low high f b (s ++ d.more) w ∙ d.begins })
          (λ w. absurd (no_follow_cut (sym (byte_out low high f b s w) ∙ e))) (yes_or_no (within low high b))

      wrong : (s : List ℕ) → byte low high s f ≡ Ill Follow → Turned (λ (t : List ℕ). byte low high t f) s
      wrong [] e = absurd (no_follow_cut (sym e ∙ byte_none low high f))
      wrong (b ∷ s) e =
          ⊎_elim (λ w. let d = (j b).wrong s (sym (byte_in low high f b s w) ∙ e) in record { before = suc d.before; room = omega (arith, d.room); can = byte_in low high f b (take d.before s) w ∙ d.can; cannot = byte_in low high f b (take (suc d.before) s) w ∙ d.cannot })
          (λ w. record { before = 0; room = omega arith; can = byte_none low high f; cannot = byte_out low high f b [] w }) (yes_or_no (within low high b))

-- the rows of section 4
module _ (a : ℕ) where
  judged_two : Judged (λ (s : List ℕ). two a 0x80 0xBF s)
  unfolding two
  judged_two = judged_byte 0x80 0xBF _ (omega arith) (omega arith) (λ b. judged_char (value2 a b) 2) (complete_char (value2 a 0x80) 2)

  judged_three : (low high : ℕ) → low ≤ high → low ≤ 0xFF → Judged (λ (s : List ℕ). three a low high s)
  unfolding three
  judged_three low high l h =
      judged_byte low high _ l h (λ b. judged_byte 0x80 0xBF _ (omega arith) (omega arith) (λ c. judged_char (value3 a b c) 3) (complete_char (value3 a b 0x80) 3))
      (complete_byte 0x80 0xBF _ (omega arith) (omega arith) (complete_char (value3 a low 0x80) 3))

  judged_four : (low high : ℕ) → low ≤ high → low ≤ 0xFF → Judged (λ (s : List ℕ). four a low high s)
  unfolding four
  judged_four low high l h =
      judged_byte low high _ l h
      (λ b. judged_byte 0x80 0xBF _ (omega arith) (omega arith)
      (λ c. judged_byte 0x80 0xBF _ (omega arith) (omega arith) (λ d. judged_char (value4 a b c d) 4) (complete_char (value4 a b c 0x80) 4))
      (complete_byte 0x80 0xBF _ (omega arith) (omega arith) (complete_char (value4 a b 0x80 0x80) 4)))
      (complete_byte 0x80 0xBF _ (omega arith) (omega arith) (complete_byte 0x80 0xBF _ (omega arith) (omega arith) (complete_char (value4 a low 0x80 0x80) 4)))

judged_pick : (t : Bool) {f g : List ℕ → Decoded} → Judged f → Judged g → Judged (λ (s : List ℕ). pick t (f s) (g s))
judged_pick true x y = x
judged_pick false x y = y

judged_lead : (a : ℕ) → Judged (λ (s : List ℕ). lead a s)
unfolding lead
judged_lead a =
    judged_pick (within 0x00 0x7F a) (judged_char a 1)
    (judged_pick (within 0xC2 0xDF a) (judged_two a)
    (judged_pick (within 0xE0 0xE0 a) (judged_three a 0xA0 0xBF (omega arith) (omega arith))
    (judged_pick (within 0xE1 0xEC a) (judged_three a 0x80 0xBF (omega arith) (omega arith))
    (judged_pick (within 0xED 0xED a) (judged_three a 0x80 0x9F (omega arith) (omega arith))
    (judged_pick (within 0xEE 0xEF a) (judged_three a 0x80 0xBF (omega arith) (omega arith))
    (judged_pick (within 0xF0 0xF0 a) (judged_four a 0x90 0xBF (omega arith) (omega arith))
    (judged_pick (within 0xF1 0xF3 a) (judged_four a 0x80 0xBF (omega arith) (omega arith))
    (judged_pick (within 0xF4 0xF4 a) (judged_four a 0x80 0x8F (omega arith) (omega arith))
    judged_start))))))))

-- THE BYTES FROM A PLACE ON
-- what is settled stays so, whatever follows
settled : (s t : List ℕ) {k : Cause} → decoded s ≡ Ill k → (k ≡ Cut → ⊥) → decoded (s ++ t) ≡ Ill k
unfolding decoded
settled [] t e n = let z : ◌≡◌ {A = ℕ} 0 1 = cc in absurd (omega arith)
settled (a ∷ s) t e n = (judged_lead a).stays s t (λ c. n (cc)) ∙ e

continued : (s : List ℕ) → decoded s ≡ Ill Cut → Completed decoded s
unfolding decoded
continued [] e = let z : ◌≡◌ {A = ℕ} 0 1 = cc in absurd (omega arith)
continued (a ∷ s) e =
    let d = (judged_lead a).more s e in
    record { more = d.more; bytes = d.bytes; code = d.code; width = d.width; begins = d.begins }

wrong_byte_in : (s : List ℕ) → decoded s ≡ Ill Follow → WrongByte s
unfolding decoded
wrong_byte_in [] e = let z : ◌≡◌ {A = ℕ} 0 1 = cc in absurd (omega arith)
wrong_byte_in (a ∷ s) e =
    let d = (judged_lead a).wrong s e in
    record { before = suc d.before; some = omega arith; room = omega (arith, d.room); can = d.can; cannot = d.cannot }

-- a row that has a first byte never says that it has none
no_cut_start : Ill Cut ≡ Ill Start → ⊥
no_cut_start e = let z : ◌≡◌ {A = ℕ} 0 1 = cc in omega arith

never_byte : (low high : ℕ) (f : ℕ → List ℕ → Decoded) (s : List ℕ) → ((b : ℕ) (t : List ℕ) → f b t ≡ Ill Start → ⊥) → byte low high s f ≡ Ill Start → ⊥
never_byte low high f [] n e = no_cut_start (sym (byte_none low high f) ∙ e)
never_byte low high f (b ∷ s) n e =
    ⊎_elim (λ w. n b s (sym (byte_in low high f b s w) ∙ e)) (λ w. let q : Ill Follow ≡ Ill Start = sym (byte_out low high f b s w) ∙ e in let z : ◌≡◌ {A = ℕ} 0 1 = cc in omega arith)
    (yes_or_no (within low high b))

module _ (a low high : ℕ) (s : List ℕ) where
  never_two : two a low high s ≡ Ill Start → ⊥
  unfolding two
  never_two = never_byte low high _ s (λ b t. no_char_ill)

  never_three : three a low high s ≡ Ill Start → ⊥
  unfolding three
  never_three = never_byte low high _ s (λ b t. never_byte 0x80 0xBF _ t (λ c u. no_char_ill))

  never_four : four a low high s ≡ Ill Start → ⊥
  unfolding four
  never_four = never_byte low high _ s (λ b t. never_byte 0x80 0xBF _ t (λ c u. never_byte 0x80 0xBF _ u (λ d v. no_char_ill)))

module _ (a : ℕ) (s : List ℕ) where
  cannot_start : lead a s ≡ Ill Start → CannotStart a
  cannot_start e =
      ⊎_elim (λ h. absurd (no_char_ill (sym (row_00 a s (omega arith) (omega arith)) ∙ e)))
      (λ l₀. ⊎_elim (λ h. inl (l₀, omega arith))
      (λ l₁. ⊎_elim (λ h. absurd (never_two a 0x80 0xBF s (sym (row_C2 a s l₁ (omega arith)) ∙ e)))
      (λ l₂. ⊎_elim (λ h. absurd (never_three a 0xA0 0xBF s (sym (row_E0 a s l₂ (omega arith)) ∙ e)))
      (λ l₃. ⊎_elim (λ h. absurd (never_three a 0x80 0xBF s (sym (row_E1 a s l₃ (omega arith)) ∙ e)))
      (λ l₄. ⊎_elim (λ h. absurd (never_three a 0x80 0x9F s (sym (row_ED a s l₄ (omega arith)) ∙ e)))
      (λ l₅. ⊎_elim (λ h. absurd (never_three a 0x80 0xBF s (sym (row_EE a s l₅ (omega arith)) ∙ e)))
      (λ l₆. ⊎_elim (λ h. absurd (never_four a 0x90 0xBF s (sym (row_F0 a s l₆ (omega arith)) ∙ e)))
      (λ l₇. ⊎_elim (λ h. absurd (never_four a 0x80 0xBF s (sym (row_F1 a s l₇ (omega arith)) ∙ e)))
      (λ l₈. ⊎_elim (λ h. absurd (never_four a 0x80 0x8F s (sym (row_F4 a s l₈ (omega arith)) ∙ e)))
      inr
      (below_or_not a 0xF5)) (below_or_not a 0xF4)) (below_or_not a 0xF1)) (below_or_not a 0xF0)) (below_or_not a 0xEE)) (below_or_not a 0xED)) (below_or_not a 0xE1))
      (below_or_not a 0xE0)) (below_or_not a 0xC2)) (below_or_not a 0x80)

  start_cannot : CannotStart a → lead a s ≡ Ill Start
  start_cannot (inl h) = row_none_80 a s h.0 h.1
  start_cannot (inr h) = row_none_F5 a s h

no_follow : Follow ≡ Cut → ⊥
no_follow e = let z : ◌≡◌ {A = ℕ} 0 1 = cc in omega arith

cut_or_not : (k : Cause) → (k ≡ Cut) ⊎ (k ≡ Cut → ⊥)
cut_or_not Start = inr (λ e. let z : ◌≡◌ {A = ℕ} 0 1 = cc in omega arith)
cut_or_not Cut = inl refl
cut_or_not Follow = inr no_follow

-- AN ILL-FORMED SEQUENCE AT A PLACE OF A TEXT, which is what `decode` finds there
module _ (s : List ℕ) (place : ℕ) {k : Cause} (e : decoded (drop place s) ≡ Ill k) where
  here : place < length s
  here = let some : 0 < length (drop place s) = told (drop place s) e in omega (arith, length-drop place s)

  behind : (t : List ℕ) → drop place (s ++ t) ≡ drop place s ++ t
  behind t = drop-append-le place s t (omega (arith, here))

  -- WHERE THE CAUSE IS NOT 2 no bytes behind the text make a character begin at the place: the bytes there are ill-formed whatever follows
  pub ill_for_good : (k ≡ Cut → ⊥) → (t : List ℕ) → decoded (drop place (s ++ t)) ≡ Ill k
  ill_for_good n t = rw (behind t) (settled (drop place s) t e n)

  -- THE CAUSE IS 2 exactly where some do
  pub cut_exactly : (k ≡ Cut) ↔ Continued s place
  cut_exactly = (there, back)
    where
      there : k ≡ Cut → Continued s place
      there c =
          let d = continued (drop place s) (e ∙ ap Ill c) in
          record { more = d.more; bytes = d.bytes; code = d.code; width = d.width; begins = rw (behind d.more) d.begins }

      back : Continued s place → k ≡ Cut
      back c = ⊎_elim (λ q. q) (λ n. absurd (no_char_ill (sym c.begins ∙ ill_for_good n c.more))) (cut_or_not k)

  at_lead : lead (get_or s place 0) (drop (suc place) s) ≡ Ill k
  unfolding decoded
  at_lead = rw (drop-cons s place 0 here) at e

  -- THE CAUSE IS 1 exactly where the byte at the place cannot start a sequence
  pub start_exactly : (k ≡ Start) ↔ CannotStart (get_or s place 0)
  start_exactly =
      (λ c. cannot_start _ _ (at_lead ∙ ap Ill c), λ h. let q = start_cannot (get_or s place 0) (drop (suc place) s) h in let r = at_lead in cc)

  -- THE CAUSE IS 3 exactly where a byte after the first is wrong, judged from the left
  pub follow_exactly : (k ≡ Follow) ↔ WrongByte (drop place s)
  follow_exactly = (λ c. wrong_byte_in (drop place s) (e ∙ ap Ill c), back)
    where
      back : WrongByte (drop place s) → k ≡ Follow
      back w =
          let n = suc w.before in
          let q : decoded (drop place s) ≡ Ill Follow = rw (take-append-drop n (drop place s)) at (settled (take n (drop place s)) (drop n (drop place s)) w.cannot no_follow) in
          cc

-- A TEXT THAT IS REFUSED: at the place stands an ill-formed sequence, and the cause is its own
pub refused_ill : (s : List ℕ) {place : ℕ} {k : Cause} → utf8_verdict s ≡ Err (NotUtf8 place k) → decoded (drop place s) ≡ Ill k
unfolding utf8_verdict
refused_ill s {place} {k} e = go (eqb (size (chars s)) (length s)) refl e
  where
    go : (t : Bool) → eqb (size (chars s)) (length s) ≡ t → pick t fine (Err (NotUtf8 (size (chars s)) (cause_of (decoded (drop (size (chars s)) s))))) ≡ Err (NotUtf8 place k) → decoded (drop place s) ≡ Ill k
    go true q r = let z : ◌≡◌ {A = ℕ} 0 1 = cc in absurd (omega arith)
    go false q r =
        let p : size (chars s) ≡ place = cc in
        let c : cause_of (decoded (drop (size (chars s)) s)) ≡ k = cc in
        rw p at (first_ill s (λ w. true≢false (sym (eq-eqb (size (chars s)) (length s) w) ∙ q)) ∙ ap Ill c)
