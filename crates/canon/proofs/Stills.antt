-- Of what trivia begins with, and of the end, nothing starts an identifier. A newline does not go on in one and is not emoji; and what is emoji is taken.
use Prim.Native.Nat.{ℕ, ◌≤◌}
use mathlib.Core.Path.{◌≡◌, refl, sym, ◌∙◌}
use mathlib.Core.List.{List, [], ◌∷◌}
use mathlib.Core.Bool.{Bool, true, false}
use mathlib.Core.Logic.{⊎_elim}
use lib.ListN.{get_or}
use native.Mathlib.Omega.{arith}
use Rattle.basics.specs.Choice.{or}
use Rattle.basics.proofs.Choices.{yes_or_no}
use Rattle.ranges.specs.Rules.{Good}
use Rattle.ranges.specs.Search.{in_pairs}
use Rattle.ranges.proofs.Laws.{Held, held}
use Rattle.classes.specs.Identifiers.{letter, id_start, id_continue}
use Rattle.classes.specs.Emoji.{emoji_char}
use Rattle.eaters.specs.Eat.{give, while, ◌>>=◌}
use Rattle.token.specs.Names.{is, 'newline', 'joiner'}
use Rattle.token.specs.Lists.{Lists, starting, going, smiling}
use Rattle.token.specs.Words.{in_invalid, invalid_ident}
use Rattle.canon.specs.Local.{stills}
use Rattle.canon.proofs.Sounds.{false_true, none}

-- good lists hold no whitespace
module _ {l : List ℕ} (g : Good l) where
  unlisted : (c : ℕ) → (Held c → ⊥) → in_pairs c l ≡ false
  unlisted c n = ⊎_elim (λ t. absurd (n (held g t))) (λ f. f) (yes_or_no (in_pairs c l))

  high_none : none (λ c. in_pairs c l) (0x85 ∷ 0x200E ∷ 0x200F ∷ 0x2028 ∷ 0x2029 ∷ []) ≡ true
  high_none =
      rw (unlisted 0x85 (λ h. h.not_85 refl), unlisted 0x200E (λ h. h.not_200_e refl), unlisted 0x200F (λ h. h.not_200_f refl), unlisted 0x2028 (λ h. h.not_2028 refl), unlisted 0x2029 (λ h. h.not_2029 refl))

  pub start_none : none (id_start l) stills ≡ true
  unfolding id_start letter
  start_none = high_none

-- below 0x80 the lists say nothing
module _ (L : Lists) where
  pub end_starts : starting L 0 ≡ false
  unfolding id_start letter
  end_starts = refl

  pub line_starts : starting L 'newline' ≡ false
  unfolding id_start letter
  line_starts = refl

  pub line_goes : going L 'newline' ≡ false
  unfolding id_continue letter
  line_goes = refl

  pub end_smiles : smiling L 0 ≡ false
  unfolding emoji_char
  end_smiles = refl

  pub line_smiles : smiling L 'newline' ≡ false
  unfolding emoji_char
  line_smiles = refl

  pub line_invalid : in_invalid L 'newline' ≡ false
  line_invalid = rw (line_goes, line_smiles)

  -- where an emoji is next, an identifier with emoji in it takes it
  smiles_in : (c : ℕ) → smiling L c ≡ true → in_invalid L c ≡ true
  smiles_in c e = go (going L c) e
    where
      go : (t : Bool) → smiling L c ≡ true → or t (or (smiling L c) (is 'joiner' c)) ≡ true
      go true e = refl
      go false e = rw e

  pub invalid_takes : (cs : List ℕ) → smiling L (get_or cs 0 0) ≡ true → 1 ≤ (invalid_ident L cs).took
  unfolding ◌>>=◌ while give
  invalid_takes [] e = false_true (sym end_smiles ∙ e)
  invalid_takes (c ∷ cs) e = rw (smiles_in c e) (omega arith)
