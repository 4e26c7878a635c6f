-- What the key call says and leaves, by its cases, in the facts of the code.
use Rattle.std.specs.Prelude.{Option, None, Some, Ok, Err}
use Prim.Native.Nat.{ℕ, ◌≤◌, ◌<◌}
use mathlib.Core.Path.{◌≡◌, refl, sym, ap, ◌∙◌}
use mathlib.Core.Bool.{Bool, true, false, true≢false}
use mathlib.Core.List.{List, ◌++◌}
use lib.ListN.{length, drop}
use borrow.Author.Tests.{le-leb, lt-leb}
use native.Mathlib.Omega.{arith}
use Rattle.basics.specs.Choice.{pick}
use Rattle.eaters.specs.Find.{Place, at, nowhere}
use Rattle.refusal.specs.declared.Bad.{Bad}
use Rattle.refusal.specs.Verdict.{Verdict, fine}
use Rattle.refusal.specs.Order.{refused_or}
use Rattle.text.specs.Chars.{WellFormed}
use Rattle.token.specs.Lists.{Lists}
use Rattle.lexer.specs.Answers.{token_verdict}
use Rattle.lexer.specs.Checked.{Checked}
use Rattle.lexer.proofs.Checks.{fine_checked}
use Rattle.places.specs.Found.{found_at}
use Rattle.places.proofs.Told.{found_at_lem, found_nowhere}
use Rattle.line_ends.specs.LineEnds.{replaced, double_return}
use Rattle.marks.specs.Marks.{hidden_mark}
use Rattle.canon.specs.Keyable.{broken_at}
use Rattle.canon.specs.Key.{key_of}
use Rattle.canon.proofs.Sounds.{false_true}
use Rattle.engine.specs.declared.Broken as engine
use Rattle.engine.specs.Needs.{Need, mending}
use Rattle.engine.specs.Wholes as whole
use Rattle.engine.specs.Wholes.{need_for}
use Rattle.key.specs.Answers.{KeyAnswer}
use Rattle.key.specs.declared.KeyRefusal.TheVariants.{DoubleReturn, HiddenMark, Broken, Room, Shared}
use Rattle.key.specs.Answers.{shared}
use Rattle.key.specs.Answers.{roomed, unbroken, unmarked, undoubled, checked_answer, key_answer, CheckedKeying, Keying}

-- what is answered, by what the key needs
abbrev answered : Need → (room : ℕ) → KeyAnswer
answered (Ok n) room = roomed n room
answered (Err broken) room = Err (Broken broken.start)

by_need : (p : Place) (n room : ℕ) → answered (need_for p n) room ≡ unbroken p (roomed n room)
by_need (at start) n room = refl
by_need nowhere n room = refl

abbrev is_bytes : Need → Bool
is_bytes (Ok n) = true
is_bytes (Err broken) = false

abbrev bytes_in : Need → ℕ
bytes_in (Ok n) = n
bytes_in (Err broken) = 0

bytes_needed : (p : Place) (n m : ℕ) → need_for p n ≡ Ok m → (p ≡ nowhere) × (n ≡ m)
bytes_needed (at start) n m e = absurd (true≢false (sym (ap is_bytes e)))
bytes_needed nowhere n m e = (refl, ap bytes_in e)

-- AFTER THE CHECKS
module _ (s : List ℕ) (L : Lists) (before : List ℕ) (checked : Checked s L) where
  abbrev key : List ℕ
  key = key_of L (replaced s)

  abbrev broken : Place
  broken = broken_at L (replaced s)

  pub measure_ready : whole.KeyReady false L s before
  measure_ready =
      record { fits = checked.fits; well = checked.well; whole = λ t. false_true t; room = λ t. false_true t }

  module _ {mid : List ℕ} {need : Need} (w : whole.KeyMade false L s before mid need) where
    measured : answered need (length before) ≡ checked_answer s L (length before)
    measured = ap (λ (x : Need). answered x (length before)) w.need ∙ by_need broken (length key) (length before)

    pub broken_in : {start : ℕ} → need ≡ mending start → CheckedKeying s L before mid (Err (Broken start))
    broken_in q = record { answer = sym (ap (λ (x : Need). answered x (length before)) q) ∙ measured; holds = w.holds }

    module _ {m : ℕ} (q : need ≡ Ok m) where
      needed : (broken ≡ nowhere) × (length key ≡ m)
      needed = bytes_needed broken (length key) m (sym w.need ∙ q)

      same : length mid ≡ length before
      same = ap length w.holds

      roomy : roomed m (length before) ≡ checked_answer s L (length before)
      roomy = sym (ap (λ (x : Need). answered x (length before)) q) ∙ measured

      pub room_in : length mid < m → CheckedKeying s L before mid (Err (Room m))
      room_in l = record { answer = sym (ap (λ (t : Bool). pick t (Ok m) (Err (Room m))) (lt-leb m (length before) (omega (arith, same, l)))) ∙ roomy; holds = w.holds }

      pub write_ready : m ≤ length mid → whole.KeyReady true L s mid
      write_ready l =
          record {
            fits = checked.fits;
            well = checked.well;
            whole = λ t. needed.0;
            room = λ t. omega (arith, needed.1, l);
          }

      module _ {after : List ℕ} {again : Need} (l : m ≤ length mid) (x : whole.KeyMade true L s mid after again) where
        same_need : again ≡ Ok m
        same_need = x.need ∙ sym w.need ∙ q

        pub keyed_in : {n : ℕ} → again ≡ Ok n → CheckedKeying s L before after (Ok n)
        keyed_in {n} g =
            let j : m ≡ n = ap bytes_in (sym same_need ∙ g) in
            record {
              answer = sym (ap Ok j) ∙ sym (ap (λ (t : Bool). pick t (Ok m) (Err (Room m))) (le-leb m (length before) (omega (arith, same, l)))) ∙ roomy;
              holds = x.holds ∙ ap (λ (o : List ℕ). key ++ drop (length key) o) w.holds ∙ ap (λ (k : ℕ). key ++ drop k before) (needed.1 ∙ j);
            }

        -- it is not refused the second time
        pub again_kept : {b : engine.Broken} {A : Type 0} → again ≡ Err b → A
        again_kept g = absurd (true≢false (ap is_bytes (sym same_need ∙ g)))

-- THE CHECKS
module _ (limit : ℕ) (s : List ℕ) (L : Lists) (before : List ℕ) {v : Verdict} (d : v ≡ token_verdict limit s L) where
  -- past the verdict: 10 and what comes after it
  abbrev later : Place → KeyAnswer
  later p = undoubled p (unmarked (hidden_mark s) (checked_answer s L (length before)))

  pub refused_in : {bad : Bad} → v ≡ Err bad → Keying limit s L before before (Err (Shared bad))
  refused_in k = record { answer = ap (λ (u : Verdict). refused_or shared u (later (double_return s))) (sym k ∙ d); holds = refl }

  -- the text is then UTF-8
  pub well_in : v ≡ fine → WellFormed s
  well_in k = (fine_checked limit s L d k).well

  module _ (k : v ≡ fine) {f : Option ℕ} (g : f ≡ found_at (double_return s)) where
    past : later (double_return s) ≡ key_answer limit s L (length before)
    past = ap (λ (u : Verdict). refused_or shared u (later (double_return s))) (sym k ∙ d)

    pub doubled_in : {place : ℕ} → f ≡ Some place → Keying limit s L before before (Err (DoubleReturn place))
    doubled_in {place} h = record { answer = ap later (sym (found_at_lem (double_return s) place (sym g ∙ h))) ∙ past; holds = refl }

    module _ (h : f ≡ None) {m : Option ℕ} (q : m ≡ found_at (hidden_mark s)) where
      -- past CR CR LF: 11 and what comes after it
      undouble : unmarked (hidden_mark s) (checked_answer s L (length before)) ≡ key_answer limit s L (length before)
      undouble = ap later (sym (found_nowhere (double_return s) (sym g ∙ h))) ∙ past

      pub marked_in : {place : ℕ} → m ≡ Some place → Keying limit s L before before (Err (HiddenMark place))
      marked_in {place} j = record { answer = ap (λ (p : Place). unmarked p (checked_answer s L (length before))) (sym (found_at_lem (hidden_mark s) place (sym q ∙ j))) ∙ undouble; holds = refl }

      pub checked_in : {after : List ℕ} {r : KeyAnswer} → m ≡ None → CheckedKeying s L before after r → Keying limit s L before after r
      checked_in j w =
          record { answer = w.answer ∙ ap (λ (p : Place). unmarked p (checked_answer s L (length before))) (sym (found_nowhere (hidden_mark s) (sym q ∙ j))) ∙ undouble; holds = w.holds }
