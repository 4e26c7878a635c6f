-- No key begins as the line does that says a refusal: `refused` and a tab. A tab after a word is whitespace, and in a key whitespace is a newline.
use Prim.Native.Nat.{ℕ}
use mathlib.Core.Path.{◌≡◌, refl, sym, ap, ◌∙◌}
use mathlib.Core.Bool.{false}
use mathlib.Core.List.{List, [], ◌∷◌}
use lib.ListN.{get_or, drop}
use native.Mathlib.Omega.{arith}
use Rattle.text.specs.Utf8.{lead, decoded}
use Rattle.text.specs.Chars.{chars_after, width}
use Rattle.classes.specs.Whitespace.{is_whitespace}
use Rattle.classes.specs.Identifiers.{letter, id_continue}
use Rattle.classes.specs.Emoji.{emoji_char}
use Rattle.eaters.specs.Eat.{give, while, ◌>>=◌, choose}
use Rattle.eaters.specs.Look.{if_at, if_two}
use Rattle.token.specs.Lists.{Lists}
use Rattle.token.specs.Advance.{advance}
use Rattle.token.specs.Tokens.{tokens_after, records}
use Rattle.canon.specs.Keyable.{Keyable}
use Rattle.canon.specs.Meaning.{Item, gap, meant, gap_before, items_of}
use Rattle.canon.specs.Key.{written, key_of}
use Rattle.canon.specs.Fair.{Fair}
use Rattle.canon.proofs.Canon.{key_again}

-- `refused`, a tab, and anything
abbrev pub refused_line : (after : List ℕ) → List ℕ
refused_line after = 114 ∷ 101 ∷ 102 ∷ 117 ∷ 115 ∷ 101 ∷ 100 ∷ 9 ∷ after

gap_first : (m : List Item) → get_or (written (gap_before m)) 0 0 ≡ 10
gap_first [] = refl
gap_first (gap ∷ m) = refl
gap_first (meant k b ∷ m) = refl

-- its own key has a newline for the tab
newline_there : (L : Lists) (after : List ℕ) → get_or (key_of L (refused_line after)) 7 0 ≡ 10
unfolding lead decoded chars_after width is_whitespace letter id_continue emoji_char give while ◌>>=◌ choose if_at if_two advance tokens_after
newline_there L after = gap_first (items_of (refused_line after) (drop 2 (records L false (refused_line after))))

pub never_refused : (L : Lists) → Fair L → (s : List ℕ) → Keyable L s → (after : List ℕ) → key_of L s ≡ refused_line after → ⊥
never_refused L fair s ks after e =
    let k : key_of L (refused_line after) ≡ refused_line after = sym (ap (key_of L) e) ∙ key_again L fair s ks ∙ e in
    let n : ◌≡◌ {A = ℕ} 10 9 = sym (newline_there L after) ∙ ap (λ (l : List ℕ). get_or l 7 0) k in
    omega (arith, n)
