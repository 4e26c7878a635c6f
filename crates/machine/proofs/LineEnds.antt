-- DEMAND 3 OF THE REPLACED TEXT (document 02, W3): a key has no CR LF where its text has no CR CR LF; so a key is accepted again and comes out as it is.
use Prim.Native.Nat.{ℕ, ◌≤◌}
use mathlib.Core.Path.{◌≡◌, sym, ap, subst, ◌∙◌}
use mathlib.Core.Logic.{◌↔◌}
use mathlib.Core.List.{List}
use mathlib.Core.Bool.{true, false}
use lib.ListN.{length}
use native.Mathlib.Omega.{arith}
use Rattle.text.specs.Chars.{chars}
use Rattle.eaters.specs.Find.{nowhere}
use Rattle.token.specs.Lists.{Lists}
use Rattle.token.specs.Tokens.{tokens}
use Rattle.line_ends.specs.LineEnds.{replaced, no_cr_lf, double_return}
use Rattle.line_ends.proofs.Replaced.{same, none_left, none_twice, replaced_few}
use Rattle.line_ends.specs.Twins.{Twins}
use Rattle.line_ends.proofs.Twins.{twins_replaced}
use Rattle.line_ends.proofs.Coded.{encode_free, chars_of_free}
use Rattle.canon.specs.Keyable.{Keyable}
use Rattle.canon.specs.Meaning.{Item, meaning}
use Rattle.canon.specs.Key.{written, key_of}
use Rattle.canon.specs.Fair.{Fair}
use Rattle.canon.proofs.Short.{key_short}
use Rattle.canon.proofs.Written.{key_encode}
use Rattle.canon.proofs.Canon.{key_again, again_keyable, canonical}
use Rattle.machine.proofs.Meets.{same_items, same_broken}
use Rattle.machine.proofs.Clean.{chars_free}

-- A KEY HAS NO CR LF where its text has none, for any lists
pub key_free : (L : Lists) (s : List ℕ) → no_cr_lf s ≡ true → Keyable L s → no_cr_lf (key_of L s) ≡ true
key_free L s f k =
    ap no_cr_lf (key_encode L s) ∙ encode_free _ ∙ ap (λ (is : List Item). no_cr_lf (written is)) (sym (same_items (tokens L false (chars s)))) ∙ chars_free L (chars s) (chars_of_free s f) (sym (same_broken s 0 (tokens L false (chars s))) ∙ k)

-- THE KEY OF A REPLACED TEXT, where CR CR LF stands nowhere in the text: it has no CR LF
module _ (L : Lists) (s : List ℕ) (undoubled : double_return s ≡ nowhere) (whole : Keyable L (replaced s)) where
  pub key_clean : no_cr_lf (key_of L (replaced s)) ≡ true
  key_clean = key_free L (replaced s) (none_left s undoubled) whole

  -- so that it is its own replaced text
  pub key_replaced : replaced (key_of L (replaced s)) ≡ key_of L (replaced s)
  key_replaced = same (key_of L (replaced s)) key_clean

  -- and has no CR CR LF either: it is accepted again
  pub key_undoubled : double_return (key_of L (replaced s)) ≡ nowhere
  key_undoubled = none_twice (key_of L (replaced s)) key_clean

  module _ (fair : Fair L) where
    pub line_keyable : Keyable L (replaced (key_of L (replaced s)))
    line_keyable = subst (λ (t : List ℕ). Keyable L t) (sym key_replaced) (again_keyable L fair (replaced s) whole)

    -- KEYING A KEY changes nothing
    pub line_again : key_of L (replaced (key_of L (replaced s))) ≡ key_of L (replaced s)
    line_again = ap (key_of L) key_replaced ∙ key_again L fair (replaced s) whole

-- TWO TEXTS have the same key exactly when the replaced texts mean the same
pub line_canonical : (L : Lists) → Fair L → (s t : List ℕ) → Keyable L (replaced s) → Keyable L (replaced t) → (key_of L (replaced s) ≡ key_of L (replaced t)) ↔ (meaning L (replaced s) ≡ meaning L (replaced t))
line_canonical L fair s t ks kt = canonical L fair (replaced s) (replaced t) ks kt

-- NO KEY IS LONGER than its text
pub line_short : (L : Lists) (s : List ℕ) → length (key_of L (replaced s)) ≤ length s
line_short L s = omega (arith, key_short L (replaced s), replaced_few s)

-- TEXTS THAT DIFFER ONLY IN CR LF FOR LF have the same key
pub twins_key : (L : Lists) {s t : List ℕ} → Twins s t → double_return s ≡ nowhere → double_return t ≡ nowhere → key_of L (replaced s) ≡ key_of L (replaced t)
twins_key L w d e = ap (key_of L) (twins_replaced w d e)
