-- What the fields of a line say, in the facts of the code.
use Prim.Native.Nat.{ℕ, ◌≤◌}
use mathlib.Core.Path.{◌≡◌, refl, sym, ◌∙◌}
use mathlib.Core.Bool.{Bool, true, false}
use mathlib.Core.List.{List}
use Rattle.std.specs.Prelude.{Option, None, Some}
use Rattle.basics.specs.Choice.{pick}
use Rattle.basics.specs.Tests.{is_in}
use Rattle.fields.specs.Pieces.{CutInto, if_cut}
use Rattle.fields.specs.Words.{same}
use Rattle.fields.proofs.Numerals.{number_says}
use Rattle.fields.proofs.Puts.{ten}
use Rattle.lists_file.specs.Names.{tab, unicode_word, start_word, continue_word, emoji_word}
use Rattle.lists_file.specs.Lines.{which_of, entry_of, hex, pair_of, record_of, version_from, decimal, minor_of, major_of, version_of}

-- the list of a name
module _ (name : List ℕ) {a : Bool} (p : a ≡ same name start_word) where
  pub which_start : a ≡ true → Some 0 ≡ which_of name
  unfolding which_of
  which_start t = rw (← p, t) refl

  module _ {b : Bool} (f : a ≡ false) (q : b ≡ same name continue_word) where
    pub which_continue : b ≡ true → Some 1 ≡ which_of name
    unfolding which_of
    which_continue t = rw (← p, f, ← q, t) refl

    module _ {c : Bool} (g : b ≡ false) (r : c ≡ same name emoji_word) where
      pub which_emoji : c ≡ true → Some 2 ≡ which_of name
      unfolding which_of
      which_emoji t = rw (← p, f, ← q, g, ← r, t) refl

      pub which_none : c ≡ false → None ≡ which_of name
      unfolding which_of
      which_none t = rw (← p, f, ← q, g, ← r, t) refl

-- a number of a version fits into 16 bits
pub sixteen : (s : List ℕ) {n : ℕ} → Some n ≡ decimal s → n ≤ 65535
sixteen s e = (number_says ten 65535 s (sym e)).small

-- WHAT IS MADE OF A CUT, or where there is none
uncut : {A : Type 0} (s : List ℕ) (some : List ℕ → List ℕ → Option A) → is_in s tab ≡ false → None ≡ if_cut tab s None some
uncut s some h = rw h refl

made : {A : Type 0} {s x y : List ℕ} (some : List ℕ → List ℕ → Option A) → CutInto tab s x y → some x y ≡ if_cut tab s None some
made some c = rw (c.marked, ← c.before_it, ← c.behind_it) refl

-- A RECORD: its name and its pair
pub no_name : (text : List ℕ) → is_in text tab ≡ false → None ≡ record_of text
unfolding record_of
no_name text h = uncut text (λ name more. pair_of (which_of name) more) h

module _ {text name pair : List ℕ} (c : CutInto tab text name pair) where
  record_named : pair_of (which_of name) pair ≡ record_of text
  unfolding record_of
  record_named = made (λ name more. pair_of (which_of name) more) c

  pub no_pair : is_in pair tab ≡ false → None ≡ record_of text
  no_pair h = uncut pair (λ low high. entry_of (which_of name) (hex low) (hex high)) h ∙ record_named

  pub record_made : {low high : List ℕ} → CutInto tab pair low high → {which l h : Option ℕ} → which ≡ which_of name → l ≡ hex low → h ≡ hex high → entry_of which l h ≡ record_of text
  record_made d e f g = rw (e, f, g) (made (λ low high. entry_of (which_of name) (hex low) (hex high)) d ∙ record_named)

-- THE FIRST LINE: the word and the three numbers
pub no_word : (text : List ℕ) → is_in text tab ≡ false → None ≡ version_of text
unfolding version_of
no_word text h = uncut text (λ word more. major_of (same word unicode_word) more) h

module _ {text word numbers : List ℕ} (c : CutInto tab text word numbers) where
  headed : major_of (same word unicode_word) numbers ≡ version_of text
  unfolding version_of
  headed = made (λ word more. major_of (same word unicode_word) more) c

  pub no_major : is_in numbers tab ≡ false → None ≡ version_of text
  no_major h = uncut numbers (λ major rest. minor_of (same word unicode_word) (decimal major) rest) h ∙ headed

  module _ {major others : List ℕ} (d : CutInto tab numbers major others) where
    begun : minor_of (same word unicode_word) (decimal major) others ≡ version_of text
    begun = made (λ major rest. minor_of (same word unicode_word) (decimal major) rest) d ∙ headed

    pub no_minor : is_in others tab ≡ false → None ≡ version_of text
    no_minor h = uncut others (λ minor update. pick (same word unicode_word) (version_from (decimal major) (decimal minor) (decimal update)) None) h ∙ begun

    pub version_made : {minor update : List ℕ} → CutInto tab others minor update → {unicode : Bool} → unicode ≡ same word unicode_word
        → {x y z : Option ℕ} → x ≡ decimal major → y ≡ decimal minor → z ≡ decimal update → pick unicode (version_from x y z) None ≡ version_of text
    version_made g w e f h = rw (w, e, f, h) (made (λ minor update. pick (same word unicode_word) (version_from (decimal major) (decimal minor) (decimal update)) None) g ∙ begun)
