-- LINE ENDS, said of the call (document 02, W3): texts that differ only in CR LF for LF have the same key, and the same answer.
use Rattle.std.specs.Prelude.{Ok}
use Prim.Native.Nat.{ℕ}
use mathlib.Core.Path.{◌≡◌, sym, ap, ◌∙◌}
use mathlib.Core.List.{List}
use lib.ListN.{length, take}
use Rattle.eaters.specs.Find.{nowhere}
use Rattle.refusal.specs.Verdict.{fine}
use Rattle.token.specs.Lists.{Lists}
use Rattle.lexer.specs.Answers.{token_verdict}
use Rattle.line_ends.specs.LineEnds.{double_return}
use Rattle.line_ends.specs.Twins.{Twins}
use Rattle.line_ends.proofs.Twins.{twins_replaced}
use Rattle.marks.specs.Marks.{hidden_mark}
use Rattle.marks.proofs.Twins.{twins_unmarked}
use Rattle.machine.proofs.LineEnds.{twins_key}
use Rattle.key.specs.Answers.{key_answer, Keying}
use Rattle.key.proofs.Fits.{done}
use Rattle.key.proofs.Canonical.{wrote_key}
use Rattle.key.proofs.Valids.{fine_valid}

-- TWO CALLS with the same lists that answered `Ok`: they wrote the same bytes
pub twins_keys : {limit : ℕ} {s t : List ℕ} {L : Lists} {before after before' after' : List ℕ} {n m : ℕ} → Twins s t → Keying limit s L before after (Ok n) → Keying limit t L before' after' (Ok m)
    → (n ≡ m) × (take n after ≡ take m after')
twins_keys {L = L} w j k =
    let d = done j.answer in
    let e = done k.answer in
    let same = twins_key L w d.undoubled e.undoubled in
    (d.long ∙ ap length same ∙ sym e.long, wrote_key j ∙ same ∙ sym (wrote_key k))

-- TWO TEXTS that the checks let through, of which one has no hidden mark, with as much room: the answer is the same, a broken token with its place too
pub twins_answer : (limit : ℕ) {s t : List ℕ} (L : Lists) (room : ℕ) → Twins s t → token_verdict limit s L ≡ fine → token_verdict limit t L ≡ fine → double_return s ≡ nowhere → double_return t ≡ nowhere
    → hidden_mark s ≡ nowhere → key_answer limit s L room ≡ key_answer limit t L room
twins_answer limit {s} {t} L room w f g d e m =
    let o : hidden_mark t ≡ nowhere = twins_unmarked w (fine_valid limit s L f).well (fine_valid limit t L g).well d e m in
    rw (f, g, d, e, m, o, twins_replaced w d e)
