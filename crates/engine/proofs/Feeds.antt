-- One character: what the step says of it, in bytes of the text.
use Prim.Native.Nat.{ℕ}
use mathlib.Core.Path.{◌≡◌, refl, sym, ap, subst, ◌∙◌}
use mathlib.Core.Bool.{Bool}
use mathlib.Core.List.{List, [], ◌∷◌, ◌++◌}
use lib.ListN.{length}
use Rattle.basics.specs.Choice.{pick}
use Rattle.text.specs.Chars.{encode, encode_one}
use Rattle.token.specs.Lists.{Lists}
use Rattle.canon.proofs.Spelling.{encode_append}
use Rattle.machine.specs.declared.Mode.{Mode}
use Rattle.machine.specs.Machine.{Next, step}
use Rattle.turns.specs.declared.Before.{Before}
use Rattle.turns.specs.declared.Before.TheVariants.{Nothing, Newline, Slash, Slashes, Slashes3, Star, Stars}
use Rattle.turns.specs.declared.Shown.{Shown}
use Rattle.turns.specs.declared.Shown.TheVariants.{Itself, Line, None}
use Rattle.turns.specs.declared.Stepped.{Stepped}
use Rattle.turns.specs.Shown.{before_out}
use Rattle.goes.specs.Went.{Shallow}
use Rattle.turns.specs.Steps.{shown_out, whole_out, Does}
use Rattle.engine.specs.Laid.{Laid, Room, shown_bytes}
use Rattle.engine.specs.Chars.{step_bytes, Laying, CharFeeding, CharFed}

-- what was held back is ASCII
pub plain_before : (b : Before) → encode (before_out b) ≡ before_out b
unfolding encode encode_one
plain_before Nothing = refl
plain_before Newline = refl
plain_before Slash = refl
plain_before Slashes = refl
plain_before Slashes3 = refl
plain_before Star = refl
plain_before Stars = refl

shown_coded : (c : ℕ) (s : Shown) → encode (shown_out c s) ≡ shown_bytes (encode (c ∷ [])) s
unfolding encode encode_one
shown_coded c Itself = refl
shown_coded c Line = refl
shown_coded c None = refl

coded : (c : ℕ) (t : Stepped) → encode (whole_out c t) ≡ before_out t.before ++ shown_bytes (encode (c ∷ [])) t.shown
coded c t =
    encode_append (before_out t.before) (shown_out c t.shown)
    ∙ ap (λ (l : List ℕ). l ++ encode (shown_out c t.shown)) (plain_before t.before)
    ∙ ap (λ (l : List ℕ). before_out t.before ++ l) (shown_coded c t.shown)

module _ {w : Bool} {mode : Mode} {from at c : ℕ} {text : List ℕ} {i next : ℕ} (L : Lists) {o : List ℕ} {n : ℕ} (f : CharFeeding w L mode from at c text i next o n) where
  pub char_steps : Shallow mode
  char_steps = f.stepping

  module _ {t : Stepped} {u : Before} {s : Shown} (d : Does L mode c t) (p : u ≡ t.before) (q : s ≡ t.shown) where
    same_bytes : step_bytes u s text i next ≡ encode (step L from at mode c).out
    same_bytes =
        ap (λ (x : Before). step_bytes x s text i next) p
        ∙ ap (λ (x : Shown). step_bytes t.before x text i next) q
        ∙ ap (λ (l : List ℕ). before_out t.before ++ shown_bytes l t.shown) f.spelled
        ∙ sym (coded c t)
        ∙ ap (λ (x : Next). encode x.out) (d.does from at)

    pub char_lays : Laying w u s text i next o n
    char_lays = record { part = f.part; room = subst (λ (l : List ℕ). Room w o n (length l)) (sym same_bytes) f.room }

    pub char_fed : {m : Mode} {after : List ℕ} {r place : ℕ} → m ≡ t.mode → Laid w (step_bytes u s text i next) o n after r → place ≡ pick t.begins at from
        → CharFed w (step L from at mode c) o n after (record { mode = m; from = place; n = r })
    char_fed {after = after} {r = r} g l k =
        record {
          laid = subst (λ (z : List ℕ). Laid w z o n after r) same_bytes l;
          mode = g ∙ ap (λ (x : Next). x.mode) (d.does from at);
          from = k ∙ ap (λ (x : Next). x.from) (d.does from at);
        }
