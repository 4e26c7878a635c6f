-- A KEY HAS NO CR LF WHERE ITS TEXT HAS NONE (document 02, W3), by the machine: no step makes one, and none comes at the end.
use Prim.Native.Nat.{ℕ, ◌+◌}
use mathlib.Core.Path.{◌≡◌, refl, ap, ◌∙◌}
use mathlib.Core.List.{List, [], ◌∷◌}
use mathlib.Core.Bool.{Bool, true, false, not}
use borrow.Author.Tests.{not-true}
use Rattle.basics.specs.Choice.{pick}
use Rattle.text.specs.Chars.{width}
use Rattle.eaters.specs.Find.{Place, nowhere}
use Rattle.token.specs.Names.{is, 'newline', 'carriage_return'}
use Rattle.token.specs.Lists.{Lists}
use Rattle.token.specs.Tokens.{tokens}
use Rattle.canon.specs.Key.{written}
use Rattle.canon.proofs.Sounds.{false_true}
use Rattle.machine.specs.declared.Mode.{Mode}
use Rattle.machine.specs.declared.Mode.TheVariants.{Start, OneSlash, TwoSlashes, ThreeSlashes, SlashStar, SlashStars, DocLine, PlainLine, Block, InWord, InBadWord, InName, Suffix, InString, StringEscape, Broken, GotR, GotRHash, GotK, GotNameHash, GotB, GotC, GotBR, GotHash, GotQuote, GotByteQuote, GotQuotes, WantsQuote, QuotedName, InLifetime, InQuotes, QuotesEscape, RawHashes, RawBody, RawEnd, GotZero, InDigits, InBased, InHex, GotDot, InFraction, GotE, InExponent}
use Rattle.machine.specs.Machine.{ok, step, finish, result}
use Rattle.machine.specs.OneShot.{key_or, items_of, broken_from}
use Rattle.line_ends.specs.LineEnds.{no_cr_lf}
use Rattle.machine.proofs.Runs.{runs}
use Rattle.machine.proofs.Meets.{key_is}
use Rattle.line_ends.proofs.Replaced.{both}
use Rattle.machine.proofs.Tidy.{goes_on, tidy, Joins}
use Rattle.machine.proofs.TidySteps.{joins_on}

-- nothing more is written
none_left : (w : Bool) → tidy w (ok []) ≡ true
none_left true = refl
none_left false = refl

module _ (L : Lists) where
  -- at the end
  last : (st : ℕ) (m : Mode) (w : Bool) → (w ≡ true → goes_on m ≡ true) → tidy w (finish st m) ≡ true
  last st (Start r) w h = none_left w
  last st (OneSlash r) true h = refl
  last st (OneSlash r) false h = refl
  last st (TwoSlashes true) w h = none_left w
  last st (TwoSlashes false) true h = false_true (h refl)
  last st (TwoSlashes false) false h = refl
  last st (ThreeSlashes r) true h = refl
  last st (ThreeSlashes r) false h = refl
  last st (SlashStar r) w h = refl
  last st (SlashStars r) w h = refl
  last st DocLine w h = none_left w
  last st PlainLine w h = none_left w
  last st (Block doc d l) w h = refl
  last st InWord w h = none_left w
  last st InBadWord w h = none_left w
  last st InName w h = none_left w
  last st Suffix w h = none_left w
  last st InString w h = refl
  last st StringEscape w h = refl
  last st Broken w h = refl
  last st GotR w h = none_left w
  last st GotRHash w h = refl
  last st GotK w h = none_left w
  last st GotNameHash w h = none_left w
  last st GotB w h = none_left w
  last st GotC w h = none_left w
  last st GotBR w h = none_left w
  last st GotHash w h = none_left w
  last st GotQuote w h = refl
  last st GotByteQuote w h = refl
  last st GotQuotes w h = none_left w
  last st WantsQuote w h = refl
  last st (QuotedName r) w h = none_left w
  last st InLifetime w h = none_left w
  last st InQuotes w h = refl
  last st QuotesEscape w h = refl
  last st (RawHashes n) w h = refl
  last st (RawBody n) w h = refl
  last st (RawEnd n j) w h = refl
  last st GotZero w h = none_left w
  last st InDigits w h = none_left w
  last st (InBased x) w h = none_left w
  last st (InHex x) w h = none_left w
  last st GotDot w h = none_left w
  last st InFraction w h = none_left w
  last st GotE w h = none_left w
  last st InExponent w h = none_left w

  -- THE MACHINE writes no CR LF; w: a CR was the last character written, v: the last one read
  clean : (cs : List ℕ) (st p : ℕ) (m : Mode) (w v : Bool) → (w ≡ true → (v ≡ true) × (goes_on m ≡ true)) → no_cr_lf (pick v ('carriage_return' ∷ cs) cs) ≡ true → tidy w (result L st p m cs) ≡ true
  clean [] st p m w v i f = last st m w (λ e. (i e).1)
  clean (c ∷ cs) st p m w v i f = l.joins (clean cs (step L st p m c).from (p + width c) (step L st p m c).mode l.now (is 'carriage_return' c) l.holds (rest (is 'carriage_return' c) refl (drops v f)))
    where
      drops : (v : Bool) → no_cr_lf (pick v ('carriage_return' ∷ c ∷ cs) (c ∷ cs)) ≡ true → no_cr_lf (c ∷ cs) ≡ true
      drops true f = (both (not (is 'newline' c)) (no_cr_lf (c ∷ cs)) f).1
      drops false f = f

      line : (v : Bool) → v ≡ true → no_cr_lf (pick v ('carriage_return' ∷ c ∷ cs) (c ∷ cs)) ≡ true → is 'newline' c ≡ false
      line true e f = not-true (is 'newline' c) (both (not (is 'newline' c)) (no_cr_lf (c ∷ cs)) f).0
      line false e f = false_true e

      l : Joins L w p c cs (step L st p m c)
      l = joins_on L st p c cs m w (λ e. ((i e).1, line v (i e).0 f))

      rest : (s : Bool) → is 'carriage_return' c ≡ s → no_cr_lf (c ∷ cs) ≡ true → no_cr_lf (pick s ('carriage_return' ∷ cs) cs) ≡ true
      rest true e f = rw e at f
      rest false e f = rw e at f

  -- THE CHARACTERS OF A KEY have no CR LF, where those of the text have none and no token is broken
  pub chars_free : (cs : List ℕ) → no_cr_lf cs ≡ true → broken_from 0 (tokens L false cs) ≡ nowhere → no_cr_lf (written (items_of (tokens L false cs))) ≡ true
  chars_free cs f k =
      let e : result L 0 0 (Start false) cs ≡ ok (written (items_of (tokens L false cs))) = runs L 0 0 (Start false) cs ∙ key_is L cs ∙ ap (λ (q : Place). key_or q (written (items_of (tokens L false cs)))) k in
      rw e at (clean cs 0 0 (Start false) false false false_true f)
