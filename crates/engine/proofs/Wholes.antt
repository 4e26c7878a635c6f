-- A whole text: what the machine says of it is the key of the replaced text.
use Prim.Native.Nat.{ℕ}
use mathlib.Core.Path.{◌≡◌, refl, sym, ap, ◌∙◌}
use mathlib.Core.Bool.{Bool, true, false}
use mathlib.Core.List.{List, ◌++◌}
use lib.ListN.{length, drop}
use native.Mathlib.Omega.{arith}
use Rattle.basics.specs.Choice.{pick}
use Rattle.text.specs.Chars.{WellFormed}
use Rattle.eaters.specs.Find.{Place, at, nowhere}
use Rattle.token.specs.Lists.{Lists}
use Rattle.line_ends.specs.LineEnds.{replaced}
use Rattle.line_ends.proofs.Coded.{un_chars}
use Rattle.canon.specs.Keyable.{broken_at}
use Rattle.canon.specs.Key.{key_of}
use Rattle.machine.specs.declared.Mode.TheVariants.{Start}
use Rattle.machine.specs.declared.State.{State}
use Rattle.machine.specs.Pieces.{begin, feed, ended}
use Rattle.machine.specs.OneShot.{key_or, in_bytes}
use Rattle.machine.proofs.Cut.{one_shot_lem}
use Rattle.engine.specs.Needs.{Need}
use Rattle.engine.specs.Runs.{state}
use Rattle.engine.specs.Closes.{closed, is_ok, rest_of, need_in, Closing, Closed}
use Rattle.engine.specs.Wholes.{need_for, KeyReady, KeyMade}

abbrev beginning : State
beginning = state (Start false) 0 0

-- THE MACHINE'S RESULT on the replaced text
pub told : (L : Lists) (text : List ℕ) → WellFormed text → closed L beginning text ≡ key_or (broken_at L (replaced text)) (key_of L (replaced text))
told L text w = ap (λ (cs : List ℕ). in_bytes (ended (feed L begin cs))) (sym (un_chars text w)) ∙ one_shot_lem L (replaced text)

need_for_lem : (key : List ℕ) (q : Place) → need_in (key_or q key) ≡ need_for q (length key)
need_for_lem key nowhere = refl
need_for_lem key (at p) = refl

module _ (L : Lists) (text : List ℕ) (well : WellFormed text) (whole : broken_at L (replaced text) ≡ nowhere) where
  all_ok : is_ok (closed L beginning text) ≡ true
  all_ok = ap is_ok (told L text well ∙ ap (λ (q : Place). key_or q (key_of L (replaced text))) whole)

  all_key : rest_of (closed L beginning text) ≡ key_of L (replaced text)
  all_key = ap rest_of (told L text well ∙ ap (λ (q : Place). key_or q (key_of L (replaced text))) whole)

pub whole_closes : (w : Bool) (L : Lists) (text o : List ℕ) → KeyReady w L text o → Closing w L beginning text o
whole_closes w L text o k =
    record {
      shallow = omega arith;
      short = omega (arith, k.fits);
      whole = λ t. all_ok L text k.well (k.whole t);
      room = λ t. omega (arith, ap length (all_key L text k.well (k.whole t)), k.room t);
    }

pub whole_made : (w : Bool) (L : Lists) (text o : List ℕ) {after : List ℕ} {r : Need} → KeyReady w L text o → Closed w L beginning text o after r → KeyMade w L text o after r
whole_made w L text o {after} k c =
    record {
      need = c.need ∙ ap need_in (told L text k.well) ∙ need_for_lem (key_of L (replaced text)) (broken_at L (replaced text));
      holds = c.holds ∙ same w refl;
    }
  where
    same : (t : Bool) → w ≡ t → pick w (rest_of (closed L beginning text) ++ drop (length (rest_of (closed L beginning text))) o) o ≡ pick w (key_of L (replaced text) ++ drop (length (key_of L (replaced text))) o) o
    same true g = ap (λ (l : List ℕ). pick w (l ++ drop (length l) o) o) (all_key L text k.well (k.whole g))
    same false g = rw g refl
