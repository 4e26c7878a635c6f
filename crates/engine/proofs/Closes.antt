-- The bytes that are left, and the end: what the machine says of them.
use Rattle.std.specs.Prelude.{Option, None, Some, Ok}
use Prim.Native.Nat.{ℕ, ◌+◌, ◌≤◌}
use mathlib.Core.Path.{◌≡◌, refl, sym, ap, subst, ◌∙◌}
use mathlib.Core.Bool.{Bool, true, false}
use mathlib.Core.List.{List, ◌++◌}
use lib.ListN.{length, drop, length-append}
use native.Mathlib.Omega.{arith}
use Rattle.basics.specs.Choice.{pick}
use Rattle.text.specs.Chars.{encode}
use Rattle.token.specs.Lists.{Lists}
use Rattle.canon.proofs.Spelling.{encode_append}
use Rattle.canon.proofs.Sounds.{false_true}
use Rattle.machine.specs.declared.Mode.{Mode}
use Rattle.machine.specs.declared.State.{State}
use Rattle.machine.specs.Machine.{Result, ok, bad, put, finish}
use Rattle.machine.specs.Streams as stream
use Rattle.machine.specs.OneShot.{in_bytes}
use Rattle.puts.specs.Put.{laid}
use Rattle.turns.specs.declared.Before.{Before}
use Rattle.turns.specs.Shown.{before_out}
use Rattle.engine.specs.declared.Ran.{Ran}
use Rattle.engine.specs.Laid.{Laid, Room}
use Rattle.engine.specs.Needs.{mending}
use Rattle.engine.specs.Runs.{state, fed_by, Feeding, Fed}
use Rattle.engine.specs.Ends.{end_result, Ends}
use Rattle.engine.specs.Closes.{closed, is_ok, rest_of, need_in, Closing, Closed}
use Rattle.engine.proofs.Lays.{laid_then, laid_length, before_few}
use Rattle.engine.proofs.Feeds.{plain_before}
use Rattle.engine.proofs.Loops.{fed_few}

module _ (L : Lists) (s : State) (text : List ℕ) where
  abbrev out : List ℕ
  out = (fed_by L s text).out

  -- what is written before the end is a part of the rest
  part : (z : Result) → is_ok (in_bytes (put out z)) ≡ true → length (encode out) ≤ length (rest_of (in_bytes (put out z)))
  part (ok u) h = omega (arith, ap length (encode_append out u), length-append (encode out) (encode u))
  part (bad p) h = false_true h

  -- the result by what the end says
  module _ {m : Mode} {from at : ℕ} (q : (fed_by L s text).state ≡ state m from at) {x : Option Before} (d : Ends m x) where
    result : in_bytes (put out (end_result from x)) ≡ closed L s text
    result = ap (λ (z : Result). in_bytes (put out z)) (d.ends from ∙ sym (ap (λ (z : State). finish z.from z.mode) q))

    rest : {b : Before} → x ≡ Some b → ok (encode out ++ before_out b) ≡ closed L s text
    rest {b} e = ap ok (sym (encode_append out (before_out b) ∙ ap (λ (l : List ℕ). encode out ++ l) (plain_before b))) ∙ subst (λ (y : Option Before). in_bytes (put out (end_result from y)) ≡ closed L s text) e result

    broken : x ≡ None → bad from ≡ closed L s text
    broken e = subst (λ (y : Option Before). in_bytes (put out (end_result from y)) ≡ closed L s text) e result

-- bytes laid from the beginning on
pub laid_first : (o xs : List ℕ) → laid o 0 xs ≡ xs ++ drop (length xs) o
unfolding laid
laid_first o xs = let z : 0 + length xs ≡ length xs = omega arith in ap (λ (k : ℕ). xs ++ drop k o) z

pub close_feeds : (w : Bool) (L : Lists) (s : State) (text o : List ℕ) → Closing w L s text o → Feeding w L s text o
close_feeds w L s text o k =
    let F : stream.Fed State = fed_by L s text in
    record {
      shallow = k.shallow;
      short = k.short;
      room = λ t. omega (arith, part L s text (finish F.state.from F.state.mode) (k.whole t), k.room t);
    }

module _ (w : Bool) (L : Lists) (s : State) (text o mid : List ℕ) (k : Closing w L s text o) {r : Ran} (f : Fed w L s text o mid r) {m : Mode} (q : m ≡ r.state.mode) {x : Option Before} (d : Ends m x) where
  same : (fed_by L s text).state ≡ state m r.state.from r.state.at
  same = f.state ∙ ap (λ (z : Mode). state z r.state.from r.state.at) (sym q)

  pub close_room : {u : Before} → x ≡ Some u → Room w mid r.n (length (before_out u))
  close_room {u} z =
      let y : encode (fed_by L s text).out ++ before_out u ≡ rest_of (closed L s text) = ap rest_of (rest L s text same d z) in
      record {
        fits = omega (arith, f.laid.next, fed_few L s text, before_few u, k.short);
        room = λ t. omega (arith, ap length y, length-append (encode (fed_by L s text).out) (before_out u), f.laid.next, k.room t, laid_length f.laid);
      }

  pub close_rest : {u : Before} {after : List ℕ} {n : ℕ} → x ≡ Some u → Laid w (before_out u) mid r.n after n → Closed w L s text o after (Ok n)
  close_rest {u} {after} {n} z l =
      let y = rest L s text same d z in
      let v : Laid w (rest_of (closed L s text)) o 0 after n = subst (λ (t : List ℕ). Laid w t o 0 after n) (ap rest_of y) (laid_then f.laid l) in
      let j : n ≡ length (encode (fed_by L s text).out ++ before_out u) = omega (arith, v.next, ap length (ap rest_of y)) in
      record { need = ap Ok j ∙ ap need_in y; holds = v.holds ∙ ap (λ (t : List ℕ). pick w t o) (laid_first o (rest_of (closed L s text))); few = omega (arith, ap length (ap rest_of y), length-append (encode (fed_by L s text).out) (before_out u), fed_few L s text, before_few u) }

  pub close_broken : x ≡ None → Closed w L s text o mid (mending r.state.from)
  close_broken z =
      let y = broken L s text same d z in
      record { need = ap need_in y; holds = none w refl; few = omega (arith, ap length (ap rest_of y)) }
    where
      none : (t : Bool) → w ≡ t → mid ≡ pick w (rest_of (closed L s text) ++ drop (length (rest_of (closed L s text))) o) o
      none true g = false_true (ap is_ok (broken L s text same d z) ∙ k.whole g)
      none false g = f.laid.holds ∙ rw g
