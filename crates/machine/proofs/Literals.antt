-- What the book's rules of literals take is what is to come: a literal with its suffix, a string, and single quotes.
-- For the modes in which such a literal begins or has ended: InString, GotByteQuote, GotQuote, Suffix.
use Prim.Native.Nat.{ℕ, suc, ◌+◌}
use mathlib.Core.Path.{◌≡◌, refl, sym, ◌∙◌}
use mathlib.Core.List.{List, [], ◌∷◌}
use mathlib.Core.Bool.{Bool, true, false}
use lib.ListN.{length, get_or, drop}
use native.Mathlib.Omega.{arith}
use native.Mathlib.Nat.{add-zero}
use Rattle.basics.specs.Choice.{pick}
use Rattle.classes.specs.Identifiers.{letter, id_start}
use Rattle.eaters.specs.Eat.{Got, Eater, give, eat, take_while, while, ◌>>=◌, texted, choose}
use Rattle.eaters.specs.Look.{if_at}
use Rattle.eaters.specs.Scan.{scan}
use Rattle.token.specs.declared.LiteralKind.{LiteralKind}
use Rattle.token.specs.Lists.{Lists, starting, going}
use Rattle.token.specs.Literals.{Body, identifier, literal}
use Rattle.token.specs.Quotes.{double_turn, double_quoted, single, single_quoted}
use Rattle.canon.proofs.Sounds.{false_true}
use Rattle.machine.proofs.Eating.{suc_add, more, here}
use Rattle.machine.proofs.ByTokens.{whole_literal, judged}
use Rattle.machine.proofs.ToCome.{suffix_took, suffix_rest, then_suffix, string_rest, quoted_rest}

module _ (L : Lists) where
  -- one more character before a literal
  pub lit_more : (g : Got Bool) (c : ℕ) (cs : List ℕ) → then_suffix L (more g) (c ∷ cs) ≡ more (then_suffix L g cs)
  lit_more g c cs = go g.said
    where
      go : (s : Bool) → pick s (record { took = suc g.took + (suffix_rest L (drop g.took cs)).took; said = true }) (record { took = suc g.took; said = s }) ≡ more (pick s (record { took = g.took + (suffix_rest L (drop g.took cs)).took; said = true }) (record { took = g.took; said = s }))
      go true = rw (suc_add g.took (suffix_rest L (drop g.took cs)).took)
      go false = refl

  -- a suffix
  pub identifier_view : (cs : List ℕ) → (identifier L cs).took ≡ (suffix_rest L cs).took
  identifier_view [] = unfold ◌>>=◌ give if_at eat while id_start letter in refl
  identifier_view (c ∷ cs) = unfold ◌>>=◌ give if_at eat while in go (starting L c)
    where
      n : ℕ
      n = length (take_while (going L) cs)

      go : (s : Bool) → (pick {A = Got (Unit {0})} s (record { took = 1 + (n + 0); said = tt }) (record { took = 0; said = tt })).took ≡ pick s (suc n) 0
      go true = omega arith
      go false = refl

  -- it begins with the next character, or there is none
  pub suffix_no : (cs : List ℕ) → starting L (get_or cs 0 0) ≡ false → suffix_rest L cs ≡ here
  suffix_no [] e = refl
  suffix_no (c ∷ cs) e = rw e

  starting_none : starting L 0 ≡ false
  unfolding id_start letter
  starting_none = refl

  pub suffix_yes : (cs : List ℕ) → starting L (get_or cs 0 0) ≡ true → suffix_took L cs ≡ suc (length (take_while (going L) (drop 1 cs)))
  suffix_yes [] e = false_true (sym starting_none ∙ e)
  suffix_yes (c ∷ cs) e = rw e

  -- A LITERAL whose kind says whether it ended
  pub lit_view : (k : ℕ) (body : Eater Body) (cs : List ℕ) → whole_literal (body cs).said.kind ≡ (body cs).said.suffixed → judged (literal L k body cs) ≡ then_suffix L (record { took = (body cs).took; said = (body cs).said.suffixed }) cs
  unfolding ◌>>=◌ texted choose give
  lit_view k body cs w = rw w (go (body cs).said.suffixed)
    where
      n : ℕ
      n = (body cs).took

      go : (s : Bool) → ◌≡◌ {A = Got Bool} (record { took = n + ((choose s (identifier L) (give tt) (drop n cs)).took + 0); said = s }) (pick s (record { took = n + (suffix_rest L (drop n cs)).took; said = true }) (record { took = n; said = s }))
      go true = rw (add-zero (identifier L (drop n cs)).took, identifier_view (drop n cs))
      go false = rw (add-zero n)

  -- a string, and single quotes; mk: which literal it is
  pub string_view : (k : ℕ) (mk : Bool → LiteralKind) (cs : List ℕ) → ((b : Bool) → whole_literal (mk b) ≡ b) → judged (literal L k (double_quoted mk) cs) ≡ string_rest L cs
  unfolding ◌>>=◌ give
  string_view k mk cs w = lit_view k (double_quoted mk) cs (w (scan double_turn 0 1 cs).said) ∙ rw (add-zero (scan double_turn 0 1 cs).took)

  pub single_view : (k : ℕ) (mk : Bool → LiteralKind) (cs : List ℕ) → ((b : Bool) → whole_literal (mk b) ≡ b) → judged (literal L k (single_quoted mk) cs) ≡ quoted_rest L cs
  unfolding ◌>>=◌ give
  single_view k mk cs w = lit_view k (single_quoted mk) cs (w (single cs).said) ∙ rw (add-zero (single cs).took)
