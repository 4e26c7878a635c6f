-- Strings: modes InString, StringEscape.
use Prim.Native.Nat.{ℕ}
use mathlib.Core.Path.{◌≡◌, refl, ap, ◌∙◌}
use mathlib.Core.List.{List, ◌∷◌}
use mathlib.Core.Bool.{Bool, true, false}
use lib.ListN.{get_or}
use borrow.Author.Tests.{eqb-true}
use Rattle.basics.specs.Choice.{pick, or}
use Rattle.eaters.specs.Scan.{taking, turned, scan}
use Rattle.token.specs.Names.{is, 'double', '\'}
use Rattle.token.specs.Lists.{Lists}
use Rattle.token.specs.Quotes.{double_turn}
use Rattle.machine.specs.declared.Mode.TheVariants.{Suffix, InString, StringEscape}
use Rattle.machine.specs.Machine.{step}
use Rattle.machine.proofs.Eating.{one_add, more, less, done}
use Rattle.machine.proofs.ToCome.{suffix_rest, then_suffix, string_rest}
use Rattle.machine.proofs.Goes.{Keeps, cases, kept}
use Rattle.machine.proofs.Literals.{lit_more}

module _ (L : Lists) where
  module _ (c : ℕ) (cs : List ℕ) where
    str_end : is 'double' c ≡ true → string_rest L (c ∷ cs) ≡ more (suffix_rest L cs)
    unfolding scan
    str_end e = rw (e, done double_turn cs, one_add)

    str_more : is 'double' c ≡ false → is '\' c ≡ false → string_rest L (c ∷ cs) ≡ more (string_rest L cs)
    unfolding scan
    str_more e f = rw (e, f) (lit_more L (scan double_turn 0 1 cs) c cs)

    esc_more : less (string_rest L ('\' ∷ c ∷ cs)) ≡ more (string_rest L cs)
    unfolding scan
    esc_more = ap less (go (is '\' c) refl (is 'double' c) refl ∙ lit_more L (more (scan double_turn 0 1 cs)) '\' (c ∷ cs)) ∙ lit_more L (scan double_turn 0 1 cs) c cs
      where
        go : (s : Bool) → is '\' c ≡ s → (t : Bool) → is 'double' c ≡ t → string_rest L ('\' ∷ c ∷ cs) ≡ then_suffix L (more (more (scan double_turn 0 1 cs))) ('\' ∷ c ∷ cs)
        go true e t f = rw e
        go false e true f = rw (e, f)
        go false e false f = rw (e, f, f, e)

  module _ (cs : List ℕ) where
    str_esc : string_rest L ('\' ∷ cs) ≡ more (less (string_rest L ('\' ∷ cs)))
    unfolding scan
    str_esc = go (or (is '\' (get_or cs 0 0)) (is 'double' (get_or cs 0 0)))
      where
        go : (s : Bool) → then_suffix L (turned (pick s (taking 1 1) (taking 0 1)) (λ k e. scan double_turn k e cs)) ('\' ∷ cs) ≡ more (less (then_suffix L (turned (pick s (taking 1 1) (taking 0 1)) (λ k e. scan double_turn k e cs)) ('\' ∷ cs)))
        go true = rw (lit_more L (scan double_turn 1 1 cs) '\' cs)
        go false = rw (lit_more L (scan double_turn 0 1 cs) '\' cs)

  module _ (st p c : ℕ) (cs : List ℕ) where
    pub at_string : Keeps L st p c cs (step L st p InString c) (string_rest L (c ∷ cs))
    at_string =
        cases (is 'double' c) (λ e. kept Suffix (suffix_rest L cs) refl (str_end c cs e))
        (λ e. cases (is '\' c) (λ f. rw (eqb-true c '\' f) (kept StringEscape (less (string_rest L ('\' ∷ cs))) refl (str_esc cs))) (λ f. kept InString (string_rest L cs) refl (str_more c cs e f)))

    pub at_string_escape : Keeps L st p c cs (step L st p StringEscape c) (less (string_rest L ('\' ∷ (c ∷ cs))))
    at_string_escape = kept InString (string_rest L cs) refl (esc_more c cs)
