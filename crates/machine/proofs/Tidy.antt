-- How one step of the machine joins what is to come without making a CR LF, and the ways in which a step does so.
-- A CR is the last character written only inside a token that goes on (`goes_on`); then no newline may be written next.
use Prim.Native.Nat.{ℕ, ◌+◌}
use mathlib.Core.Path.{◌≡◌, refl, sym, ap, ◌∙◌}
use mathlib.Core.List.{List, [], ◌∷◌, ◌++◌, append_assoc}
use mathlib.Core.Bool.{Bool, true, false}
use borrow.Author.Tests.{eqb-true}
use Rattle.basics.specs.Choice.{pick}
use Rattle.basics.proofs.Choices.{by_pick}
use Rattle.text.specs.Chars.{width}
use Rattle.token.specs.Names.{is, 'newline', 'carriage_return'}
use Rattle.token.specs.Lists.{Lists}
use Rattle.canon.proofs.Sounds.{false_true}
use Rattle.machine.specs.declared.Mode.{Mode}
use Rattle.machine.specs.declared.Mode.TheVariants.{Start, OneSlash, TwoSlashes, ThreeSlashes, SlashStar, SlashStars, DocLine, PlainLine, Block, InWord, InBadWord, InName, Suffix, InString, StringEscape, Broken, GotR, GotRHash, GotK, GotNameHash, GotB, GotC, GotBR, GotHash, GotQuote, GotByteQuote, GotQuotes, WantsQuote, QuotedName, InLifetime, InQuotes, QuotesEscape, RawHashes, RawBody, RawEnd, GotZero, InDigits, InBased, InHex, GotDot, InFraction, GotE, InExponent}
use Rattle.machine.specs.Machine.{Result, ok, bad, put, Next, taken, silent, preceded, gap_out, result}
use Rattle.line_ends.specs.LineEnds.{no_cr_lf}

-- in these modes a CR may be the last character written; a broken token is void
abbrev pub goes_on : Mode → Bool
goes_on (Start r) = false
goes_on (OneSlash r) = false
goes_on (TwoSlashes r) = false
goes_on (ThreeSlashes r) = false
goes_on (SlashStar r) = false
goes_on (SlashStars r) = false
goes_on DocLine = true
goes_on PlainLine = false
goes_on (Block doc d l) = doc
goes_on InWord = false
goes_on InBadWord = false
goes_on InName = false
goes_on Suffix = false
goes_on InString = true
goes_on StringEscape = false
goes_on Broken = true
goes_on GotR = false
goes_on GotRHash = false
goes_on GotK = false
goes_on GotNameHash = false
goes_on GotB = false
goes_on GotC = false
goes_on GotBR = false
goes_on GotHash = false
goes_on GotQuote = false
goes_on GotByteQuote = false
goes_on GotQuotes = false
goes_on WantsQuote = false
goes_on (QuotedName r) = false
goes_on InLifetime = false
goes_on InQuotes = true
goes_on QuotesEscape = false
goes_on (RawHashes n) = false
goes_on (RawBody n) = true
goes_on (RawEnd n j) = false
goes_on GotZero = false
goes_on InDigits = false
goes_on (InBased h) = false
goes_on (InHex h) = false
goes_on GotDot = false
goes_on InFraction = false
goes_on GotE = false
goes_on InExponent = false

-- a result has no CR LF; w: a CR stands right before it
abbrev pub tidy : (w : Bool) → Result → Bool
tidy w (ok o) = no_cr_lf (pick w ('carriage_return' ∷ o) o)
tidy w (bad n) = true

-- ONE STEP n over c; w: before it a CR was the last character written, `now`: after it one is. What n writes joins what is to come.
pub record Joins (L : Lists) (w : Bool) (p c : ℕ) (cs : List ℕ) (n : Next) : Type 0 where
  pub now : Bool
  pub holds : now ≡ true → (is 'carriage_return' c ≡ true) × (goes_on n.mode ≡ true)
  pub joins : tidy now (result L n.from (p + width c) n.mode cs) ≡ true → tidy w (put n.out (result L n.from (p + width c) n.mode cs)) ≡ true

-- a character is written
join_one : (w : Bool) (c : ℕ) (x : Result) → (w ≡ true → is 'newline' c ≡ false) → tidy (is 'carriage_return' c) x ≡ true → tidy w (put (c ∷ []) x) ≡ true
join_one w c (bad n) h t = refl
join_one w c (ok o) h t = go w h (cons (is 'carriage_return' c) refl t)
  where
    cons : (s : Bool) → is 'carriage_return' c ≡ s → no_cr_lf (pick s ('carriage_return' ∷ o) o) ≡ true → no_cr_lf (c ∷ o) ≡ true
    cons true e t = rw (eqb-true c 'carriage_return' e) t
    cons false e t = rw e t

    go : (w : Bool) → (w ≡ true → is 'newline' c ≡ false) → no_cr_lf (c ∷ o) ≡ true → no_cr_lf (pick w ('carriage_return' ∷ c ∷ o) (c ∷ o)) ≡ true
    go true h t = rw (h refl) t
    go false h t = t

pub took : {L : Lists} {w : Bool} {p : ℕ} {cs : List ℕ} (c : ℕ) (m : Mode) (st : ℕ) → (w ≡ true → is 'newline' c ≡ false) → (is 'carriage_return' c ≡ true → goes_on m ≡ true) → Joins L w p c cs (taken c m st)
took {L} {w} {p} {cs} c m st h k = record { now = is 'carriage_return' c; holds = λ e. (e, k e); joins = λ t. join_one w c (result L st (p + width c) m cs) h t }

-- nothing is written
none_put : (w : Bool) (x : Result) → tidy w x ≡ true → tidy w (put [] x) ≡ true
none_put w (ok o) t = t
none_put w (bad n) t = refl

pub quietly : {L : Lists} {p : ℕ} {cs : List ℕ} {c : ℕ} (m : Mode) (st : ℕ) → Joins L false p c cs (silent m st)
quietly {L} {p} {cs} {c} m st = record { now = false; holds = false_true; joins = λ t. none_put false (result L st (p + width c) m cs) t }

-- a newline is written for trivia, or not
pub gap_goes : {L : Lists} {p c : ℕ} {cs : List ℕ} (r : Bool) → Joins L false p c cs (record { out = gap_out r; mode = Start true; from = p })
gap_goes {L} {p} true = quietly (Start true) p
gap_goes {L} {p} {c} {cs} false = record { now = false; holds = false_true; joins = λ t. join_one false 'newline' (result L p (p + width c) (Start true) cs) false_true t }

-- a broken token: nothing after it counts
lost_run : (L : Lists) (st p : ℕ) (cs : List ℕ) → result L st p Broken cs ≡ bad st
lost_run L st p [] = refl
lost_run L st p (c ∷ cs) = ap (put []) (lost_run L st (p + width c) cs)

pub lost : {L : Lists} {w : Bool} {p : ℕ} {cs : List ℕ} {c : ℕ} (st : ℕ) → Joins L w p c cs (silent Broken st)
lost {L} {w} {p} {cs} {c} st = record { now = false; holds = false_true; joins = λ t. rw (lost_run L st (p + width c) cs) }

-- by cases, as the machine decides
pub either : {L : Lists} {w : Bool} {p c : ℕ} {cs : List ℕ} {x y : Next} (b : Bool) → (b ≡ true → Joins L w p c cs x) → (b ≡ false → Joins L w p c cs y) → Joins L w p c cs (pick b x y)
either {L} {w} {p} {c} {cs} {x} {y} b = by_pick (λ (n : Next). Joins L w p c cs n) b x y

-- a character of a test that CR does not pass
pub other : {X : Type 0} (c : ℕ) (P : ℕ → Bool) → P 'carriage_return' ≡ false → P c ≡ true → is 'carriage_return' c ≡ true → X
other c P q e h = false_true (sym q ∙ sym (ap P (eqb-true c 'carriage_return' h)) ∙ e)

-- what was held back is written before
join_held : (u v : List ℕ) → ((o : List ℕ) → no_cr_lf (u ++ o) ≡ no_cr_lf o) → (x : Result) → tidy false (put v x) ≡ true → tidy false (put (u ++ v) x) ≡ true
join_held u v h (ok o) t = ap no_cr_lf (append_assoc u v o) ∙ h (v ++ o) ∙ t
join_held u v h (bad n) t = refl

pub after_held : {L : Lists} {p c : ℕ} {cs : List ℕ} (u : List ℕ) (n : Next) → ((o : List ℕ) → no_cr_lf (u ++ o) ≡ no_cr_lf o) → Joins L false p c cs n → Joins L false p c cs (preceded u n)
after_held {L} {p} {c} {cs} u n h l = record { now = l.now; holds = l.holds; joins = λ t. join_held u n.out h (result L n.from (p + width c) n.mode cs) (l.joins t) }

pub after_gap : {L : Lists} {p c : ℕ} {cs : List ℕ} (r : Bool) (n : Next) → Joins L false p c cs n → Joins L false p c cs (preceded (gap_out r) n)
after_gap true n l = after_held [] n (λ o. refl) l
after_gap false n l = after_held ('newline' ∷ []) n (λ o. refl) l
