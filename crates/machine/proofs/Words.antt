-- Identifiers and suffixes, character by character: modes InWord, InBadWord, InName, Suffix.
use Prim.Native.Nat.{ℕ}
use mathlib.Core.Path.{◌≡◌, refl, sym, ap, ◌∙◌}
use mathlib.Core.List.{List, ◌∷◌}
use mathlib.Core.Bool.{Bool, true, false}
use borrow.Author.Tests.{eqb-true}
use Rattle.basics.specs.Choice.{or}
use Rattle.basics.proofs.Sums.{zero_plus}
use Rattle.classes.specs.Emoji.{emoji_char}
use Rattle.eaters.specs.Eat.{give, while, ◌>>=◌}
use Rattle.eaters.specs.Look.{if_at}
use Rattle.token.specs.Names.{is, 'double', '#', 'single'}
use Rattle.token.specs.Lists.{Lists, starting, going, smiling}
use Rattle.token.specs.Words.{in_invalid, invalid_ident, prefix_mark, ident_or_unknown_prefix}
use Rattle.canon.proofs.Sounds.{false_true}
use Rattle.machine.specs.declared.Mode.TheVariants.{InWord, InBadWord, InName}
use Rattle.machine.specs.Machine.{at_suffix, at_ident, step}
use Rattle.machine.proofs.Eating.{suc_add, more, here}
use Rattle.machine.proofs.ByTokens.{judged}
use Rattle.machine.proofs.ToCome.{name_rest, suffix_rest}
use Rattle.machine.proofs.Goes.{Keeps, cases, kept}
use Rattle.machine.proofs.Begins.{again}

module _ (L : Lists) where
  -- emoji make no prefix
  emoji_high : (c : ℕ) → smiling L c ≡ true → prefix_mark c ≡ false
  unfolding emoji_char
  emoji_high c e = go (is '#' c) (is 'double' c) (is 'single' c) refl refl refl
    where
      go : (x y z : Bool) → is '#' c ≡ x → is 'double' c ≡ y → is 'single' c ≡ z → or x (or y z) ≡ false
      go true y z a b d = false_true (sym (ap (smiling L) (eqb-true c '#' a)) ∙ e)
      go false true z a b d = false_true (sym (ap (smiling L) (eqb-true c 'double' b)) ∙ e)
      go false false true a b d = false_true (sym (ap (smiling L) (eqb-true c 'single' d)) ∙ e)
      go false false false a b d = refl

  module _ (c : ℕ) (cs : List ℕ) where
    -- an identifier that may turn out to have emoji in it, and one that has
    pub ident_more : going L c ≡ true → judged (ident_or_unknown_prefix L (c ∷ cs)) ≡ more (judged (ident_or_unknown_prefix L cs))
    unfolding ◌>>=◌ while
    ident_more e = rw (e, suc_add)

    invalid_more : in_invalid L c ≡ true → judged (invalid_ident L (c ∷ cs)) ≡ more (judged (invalid_ident L cs))
    unfolding ◌>>=◌ while give
    invalid_more e = rw (e, suc_add)

    invalid_none : in_invalid L c ≡ false → judged (invalid_ident L (c ∷ cs)) ≡ here
    unfolding ◌>>=◌ while give
    invalid_none e = rw e

    ident_emoji : going L c ≡ false → smiling L c ≡ true → judged (ident_or_unknown_prefix L (c ∷ cs)) ≡ more (judged (invalid_ident L cs))
    unfolding ◌>>=◌ while if_at give
    ident_emoji e f = rw (e, emoji_high c f, f, e, suc_add, zero_plus)

    pub ident_none : going L c ≡ false → smiling L c ≡ false → judged (ident_or_unknown_prefix L (c ∷ cs)) ≡ here
    unfolding ◌>>=◌ while if_at give
    ident_none e f = go (prefix_mark c) refl
      where
        go : (s : Bool) → prefix_mark c ≡ s → judged (ident_or_unknown_prefix L (c ∷ cs)) ≡ here
        go true m = rw (e, m)
        go false m = rw (e, m, f)

  module _ (st p c : ℕ) (cs : List ℕ) where
    pub at_ident_lem : Keeps L st p c cs (at_ident L st p c) (judged (ident_or_unknown_prefix L (c ∷ cs)))
    at_ident_lem =
        cases (going L c) (λ e. kept InWord (judged (ident_or_unknown_prefix L cs)) refl (ident_more c cs e))
        (λ e. cases (smiling L c) (λ f. kept InBadWord (judged (invalid_ident L cs)) refl (ident_emoji c cs e f)) (λ f. again (ident_none c cs e f)))

    pub at_bad_word : Keeps L st p c cs (step L st p InBadWord c) (judged (invalid_ident L (c ∷ cs)))
    at_bad_word = cases (in_invalid L c) (λ e. kept InBadWord (judged (invalid_ident L cs)) refl (invalid_more c cs e)) (λ e. again (invalid_none c cs e))

    pub at_name : Keeps L st p c cs (step L st p InName c) (name_rest L (c ∷ cs))
    at_name = cases (going L c) (λ e. kept InName (name_rest L cs) refl (rw e)) (λ e. again (rw e))

    pub at_suffix_lem : Keeps L st p c cs (at_suffix L st p c) (suffix_rest L (c ∷ cs))
    at_suffix_lem = cases (starting L c) (λ e. kept InName (name_rest L cs) refl (rw e)) (λ e. again (rw e))
