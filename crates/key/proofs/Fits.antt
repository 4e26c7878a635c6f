-- What an answer of success says: of the text, the lists and the room; and a key that was written fits into the buffer.
use Rattle.std.specs.Prelude.{Ok, Err}
use Prim.Native.Nat.{ℕ, ◌≤◌}
use mathlib.Core.Path.{◌≡◌, refl, sym, ap, ◌∙◌}
use mathlib.Core.Bool.{Bool, true, false, true≢false}
use mathlib.Core.List.{List}
use lib.Dec.{leb}
use lib.ListN.{length, take}
use lib.Seq.{length-take-le}
use borrow.Author.Tests.{leb-true}
use native.Mathlib.Omega.{arith}
use Rattle.basics.specs.Choice.{pick}
use Rattle.eaters.specs.Find.{Place, at, nowhere}
use Rattle.refusal.specs.Verdict.{Verdict, fine}
use Rattle.refusal.specs.Order.{refused_or}
use Rattle.token.specs.Lists.{Lists}
use Rattle.lexer.specs.Answers.{token_verdict}
use Rattle.line_ends.specs.LineEnds.{replaced, double_return}
use Rattle.marks.specs.Marks.{hidden_mark}
use Rattle.canon.specs.Keyable.{broken_at, Keyable}
use Rattle.canon.specs.Key.{key_of}
use Rattle.key.specs.Answers.{KeyAnswer}
use Rattle.key.specs.declared.KeyRefusal.TheVariants.{Room}
use Rattle.key.specs.Answers.{shared}
use Rattle.key.specs.Answers.{unbroken, unmarked, undoubled, key_answer, Keying}

-- what an answer of success says of the text, the lists and the room
pub record Done (limit : ℕ) (s : List ℕ) (L : Lists) (room n : ℕ) : Type 0 where
  pub fine : token_verdict limit s L ≡ fine
  pub undoubled : double_return s ≡ nowhere
  pub unmarked : hidden_mark s ≡ nowhere
  pub keyable : Keyable L (replaced s)
  pub long : n ≡ length (key_of L (replaced s))
  pub fits : n ≤ room

abbrev is_keyed : KeyAnswer → Bool
is_keyed (Ok n) = true
is_keyed (Err refusal) = false

abbrev bytes_in : KeyAnswer → ℕ
bytes_in (Ok n) = n
bytes_in (Err refusal) = 0

module _ {limit : ℕ} {s : List ℕ} {L : Lists} {room n : ℕ} where
  by_cases : (v : Verdict) (d m p : Place) (t : Bool) → token_verdict limit s L ≡ v → double_return s ≡ d → hidden_mark s ≡ m → broken_at L (replaced s) ≡ p → leb (length (key_of L (replaced s))) room ≡ t
      → Ok n ≡ refused_or shared v (undoubled d (unmarked m (unbroken p (pick t (Ok (length (key_of L (replaced s)))) (Err (Room (length (key_of L (replaced s))))))))) → Done limit s L room n
  by_cases (Ok tt) nowhere nowhere nowhere true f d m p q e =
      let k : n ≡ length (key_of L (replaced s)) = ap bytes_in e in
      record { fine = f; undoubled = d; unmarked = m; keyable = p; long = k; fits = omega (arith, k, leb-true (length (key_of L (replaced s))) room q) }
  by_cases (Ok tt) nowhere nowhere nowhere false f d m p q e = absurd (true≢false (ap is_keyed e))
  by_cases (Ok tt) nowhere nowhere (at start) t f d m p q e = absurd (true≢false (ap is_keyed e))
  by_cases (Ok tt) nowhere (at place) p t f d m g q e = absurd (true≢false (ap is_keyed e))
  by_cases (Ok tt) (at place) m p t f d h g q e = absurd (true≢false (ap is_keyed e))
  by_cases (Err b) d m p t f h i g q e = absurd (true≢false (ap is_keyed e))

  pub done : Ok n ≡ key_answer limit s L room → Done limit s L room n
  done = by_cases (token_verdict limit s L) (double_return s) (hidden_mark s) (broken_at L (replaced s)) (leb (length (key_of L (replaced s))) room) refl refl refl refl refl

-- A KEY THAT WAS WRITTEN fits into the buffer, and its bytes are a part of it
module _ {limit : ℕ} {s : List ℕ} {L : Lists} {before after : List ℕ} {r : KeyAnswer} {n : ℕ} (k : Keying limit s L before after r) (e : r ≡ Ok n) (kept : length after ≡ length before) where
  pub key_fits : n ≤ length after
  key_fits =
      let d : Done limit s L (length before) n = done (sym e ∙ k.answer) in
      omega (arith, d.fits, kept)

  pub key_part : n ≡ length (take n after)
  key_part = sym (length-take-le n after key_fits)
