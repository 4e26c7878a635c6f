-- The loop over the characters of a run: the characters before a place are fed, and what the machine writes of them is laid.
use Prim.Native.Nat.{ℕ, ◌+◌, ◌-◌, ◌≤◌, ◌<◌}
use mathlib.Core.Path.{◌≡◌, refl, sym, ap, subst, ◌∙◌}
use mathlib.Core.Bool.{Bool, true, false}
use mathlib.Core.List.{List, [], ◌∷◌, ◌++◌, append_assoc, append-nil}
use lib.ListN.{length, take, drop, length-drop, length-append}
use lib.Seq.{take_at}
use native.Mathlib.Omega.{arith}
use Rattle.basics.specs.Choice.{pick}
use Rattle.refusal.specs.declared.Cause.{Cause}
use Rattle.text.specs.declared.Decoded.{Decoded}
use Rattle.text.specs.declared.Decoded.TheVariants.{Char, End, Ill}
use Rattle.text.specs.Utf8.{decoded}
use Rattle.text.specs.Chars.{chars, size, width, encode, encode_one}
use Rattle.text.proofs.Coding.{Fact, length_encode_one}
use Rattle.text.proofs.Texts.{told, length_encode, size_chars}
use Rattle.text.proofs.Places.{char_chars, end_chars, ill_chars}
use Rattle.token.specs.Lists.{Lists}
use Rattle.line_ends.specs.LineEnds.{cr_lf, replaced}
use Rattle.canon.proofs.Spelling.{encode_append}
use Rattle.machine.specs.declared.Mode.{Mode}
use Rattle.machine.specs.declared.State.{State}
use Rattle.machine.specs.Machine.{Next, step}
use Rattle.machine.specs.Streams as stream
use Rattle.machine.specs.Pieces.{feed, deepest}
use Rattle.machine.proofs.Cut.{room, few_held}
use Rattle.machine.proofs.Small.{step_deep}
use Rattle.engine.specs.declared.Kept.{Kept}
use Rattle.engine.specs.Laid.{Laid}
use Rattle.engine.specs.Chars.{CharFeeding, CharFed}
use Rattle.engine.specs.Runs.{state, fed_by, Feeding, Fed}
use Rattle.engine.proofs.Lays.{laid_none, laid_then, laid_length}

-- what was written before goes before
abbrev onward : List ℕ → stream.Fed State → stream.Fed State
onward u f = record { out = u ++ f.out; state = f.state }

-- what is still to come
abbrev rest : Lists → (text : List ℕ) (i : ℕ) → Mode → (from at : ℕ) → stream.Fed State
rest L text i mode from at = feed L (state mode from at) (replaced (chars (drop i text)))

-- THE CHARACTERS BEFORE i ARE FED
pub record Upto (w : Bool) (L : Lists) (s : State) (text o : List ℕ) (i : ℕ) (mode : Mode) (from at : ℕ) (out : List ℕ) (n : ℕ) : Type 0 where
  pub written : List ℕ
  pub same : fed_by L s text ≡ onward written (rest L text i mode from at)
  pub laid : Laid w (encode written) o 0 out n
  pub deep : deepest mode ≤ at
  pub reached : at ≤ s.at + i

pub upto_none : (w : Bool) (L : Lists) (s : State) (text o : List ℕ) → Feeding w L s text o → Upto w L s text o 0 s.mode s.from s.at o 0
unfolding encode
upto_none w L s text o f = record { written = []; same = refl; laid = laid_none w o 0 (λ t. omega arith); deep = f.shallow; reached = omega arith }

-- WHAT THE CHARACTER AT A PLACE TELLS
record Here (text : List ℕ) (i c w : ℕ) : Type 0 where
  fact : Fact (drop i text) c w
  after : chars (drop i text) ≡ c ∷ chars (drop (i + w) text)
  within : i + w ≤ length text
  spelt : take w (drop i text) ≡ encode (c ∷ [])

encode_one_lem : (c : ℕ) → encode_one c ≡ encode (c ∷ [])
unfolding encode
encode_one_lem c = sym (append-nil (encode_one c))

here : (text : List ℕ) (i c w : ℕ) {r : Decoded} → r ≡ decoded (drop i text) → r ≡ Char c w → Here text i c w
here text i c w e q =
    let f : Fact (drop i text) c w = told (drop i text) (sym e ∙ q) in
    let l : length (encode_one c) ≡ w = length_encode_one c ∙ f.wide in
    record {
      fact = f;
      after = char_chars text i e q;
      within = omega (arith, f.room, f.some, length-drop i text);
      spelt = ap (take w) (sym f.coded) ∙ take_at (encode_one c) (drop w (drop i text)) w l ∙ encode_one_lem c;
    }

-- the replaced text takes no more bytes
size_replaced : (cs : List ℕ) → size (replaced cs) ≤ size cs
size_replaced [] = omega arith
size_replaced (c ∷ cs) = go (cr_lf c cs) (size_replaced cs)
  where
    go : (b : Bool) → size (replaced cs) ≤ size cs → size (pick b (replaced cs) (c ∷ replaced cs)) ≤ size (c ∷ cs)
    go true h = omega (arith, h)
    go false h = omega (arith, h)

-- what is written of a run takes at most three bytes more than it
pub fed_few : (L : Lists) (s : State) (text : List ℕ) → length (encode (fed_by L s text).out) ≤ length text + 3
fed_few L s text =
    omega (arith, length_encode (fed_by L s text).out, room L s (replaced (chars text)), few_held s.mode, size_replaced (chars text), size_chars text)

module _ (w : Bool) (L : Lists) (text o : List ℕ) (i : ℕ) (s₀ : State) (mode : Mode) (from at : ℕ) (out : List ℕ) (n : ℕ) {r : Decoded} {c k : ℕ} (f : Feeding w L s₀ text o) (u : Upto w L s₀ text o i mode from at out n) (p : r ≡ decoded (drop i text)) (q : r ≡ Char c k) where
  abbrev N : Next
  N = step L from at mode c

  h : Here text i c k
  h = here text i c k p q

  pub next_fits : i + k < 18446744073709551616
  next_fits = omega (arith, h.within, f.short)

  pub at_fits : at + k < 18446744073709551616
  at_fits = omega (arith, h.within, f.short, u.reached)

  pub fewer : length text - (i + k) < length text - i
  fewer = omega (arith, h.within, h.fact.some)

  -- a CR that LF follows is not fed
  pub on_cr : {t : Bool} → t ≡ cr_lf c (chars (drop (i + k) text)) → t ≡ true → Upto w L s₀ text o (i + k) mode from at out n
  on_cr {t} x y =
      let z : replaced (chars (drop i text)) ≡ replaced (chars (drop (i + k) text)) = ap replaced h.after ∙ ap (λ (v : Bool). pick v (replaced (chars (drop (i + k) text))) (c ∷ replaced (chars (drop (i + k) text)))) (sym x ∙ y) in
      record {
        written = u.written;
        same = u.same ∙ ap (λ (cs : List ℕ). onward u.written (feed L (state mode from at) cs)) z;
        laid = u.laid;
        deep = u.deep;
        reached = omega (arith, u.reached);
      }

  -- any other character is
  fed : {t : Bool} → t ≡ cr_lf c (chars (drop (i + k) text)) → t ≡ false → fed_by L s₀ text ≡ onward (u.written ++ N.out) (rest L text (i + k) N.mode N.from (at + k))
  fed x y =
      let z : replaced (chars (drop i text)) ≡ c ∷ replaced (chars (drop (i + k) text)) = ap replaced h.after ∙ ap (λ (v : Bool). pick v (replaced (chars (drop (i + k) text))) (c ∷ replaced (chars (drop (i + k) text)))) (sym x ∙ y) in
      let g : stream.Fed State = rest L text (i + k) N.mode N.from (at + width c) in
      u.same
      ∙ ap (λ (cs : List ℕ). onward u.written (feed L (state mode from at) cs)) z
      ∙ ap (λ (l : List ℕ). record { out = l; state = g.state }) (sym (append_assoc u.written N.out g.out))
      ∙ ap (λ (j : ℕ). onward (u.written ++ N.out) (rest L text (i + k) N.mode N.from (at + j))) h.fact.wide

  -- there is room for what the machine writes of it
  within : {t : Bool} → t ≡ cr_lf c (chars (drop (i + k) text)) → t ≡ false → n + length (encode N.out) ≤ length (encode (fed_by L s₀ text).out)
  within x y =
      let g : stream.Fed State = rest L text (i + k) N.mode N.from (at + k) in
      let v : encode (fed_by L s₀ text).out ≡ (encode u.written ++ encode N.out) ++ encode g.out =
      ap (λ (z : stream.Fed State). encode z.out) (fed x y) ∙ encode_append (u.written ++ N.out) g.out ∙ ap (λ (l : List ℕ). l ++ encode g.out) (encode_append u.written N.out) in
      omega (arith, ap length v, length-append (encode u.written ++ encode N.out) (encode g.out), length-append (encode u.written) (encode N.out), u.laid.next)

  pub on_char : {t : Bool} → t ≡ cr_lf c (chars (drop (i + k) text)) → t ≡ false → CharFeeding w L mode from at c text i (i + k) out n
  on_char {t} x y =
      let d : (i + k) - i ≡ k = omega arith in
      record {
        stepping = omega (arith, u.deep, u.reached, h.within, h.fact.some, f.short);
        part = record { forth = omega arith; within = h.within };
        spelled = ap (λ (j : ℕ). take j (drop i text)) d ∙ h.spelt;
        room = record {
          fits = omega (arith, within x y, fed_few L s₀ text, f.short);
          room = λ z. omega (arith, within x y, f.room z, laid_length u.laid);
        };
      }

  pub on_fed : {t : Bool} {after : List ℕ} {g : Kept} → t ≡ cr_lf c (chars (drop (i + k) text)) → t ≡ false → CharFed w N out n after g
      → Upto w L s₀ text o (i + k) g.mode g.from (at + k) after g.n
  on_fed {t} {after} {g} x y z =
      record {
        written = u.written ++ N.out;
        same = fed x y ∙ ap (λ (m : Mode). onward (u.written ++ N.out) (rest L text (i + k) m N.from (at + k))) (sym z.mode) ∙ ap (λ (j : ℕ). onward (u.written ++ N.out) (rest L text (i + k) g.mode j (at + k))) (sym z.from);
        laid = subst (λ (l : List ℕ). Laid w l o 0 after g.n) (sym (encode_append u.written N.out)) (laid_then u.laid z.laid);
        deep = subst (λ (m : Mode). deepest m ≤ at + k) (sym z.mode) (omega (arith, step_deep L at from at mode c u.deep, h.fact.some));
        reached = omega (arith, u.reached);
      }

-- THE END
module _ (w : Bool) (L : Lists) (s : State) (text o : List ℕ) (i : ℕ) (mode : Mode) (from at : ℕ) (out : List ℕ) (n : ℕ) (u : Upto w L s text o i mode from at out n) where
  over : chars (drop i text) ≡ [] → Fed w L s text o out (record { state = state mode from at; n = n })
  over z =
      let y : fed_by L s text ≡ record { out = u.written; state = state mode from at } =
      u.same ∙ ap (λ (cs : List ℕ). onward u.written (feed L (state mode from at) (replaced cs))) z ∙ ap (λ (l : List ℕ). record { out = l; state = state mode from at }) (append-nil u.written) in
      record {
        laid = subst (λ (l : List ℕ). Laid w (encode l) o 0 out n) (sym (ap (λ (x : stream.Fed State). x.out) y)) u.laid;
        state = ap (λ (x : stream.Fed State). x.state) y;
      }

  pub upto_end : {r : Decoded} → r ≡ decoded (drop i text) → r ≡ End → Fed w L s text o out (record { state = state mode from at; n = n })
  upto_end p q = over (end_chars text i p q)

  pub upto_ill : {r : Decoded} {k : Cause} → r ≡ decoded (drop i text) → r ≡ Ill k → Fed w L s text o out (record { state = state mode from at; n = n })
  upto_ill p q = over (ill_chars text i p q)

  pub upto_long : length out ≡ length o
  upto_long = laid_length u.laid
