-- Identifiers, one character at a time.
use Prim.Native.Nat.{ℕ, ◌+◌}
use mathlib.Core.Path.{◌≡◌, refl, sym, ap, ◌∙◌}
use mathlib.Core.List.{List}
use mathlib.Core.Bool.{Bool, true, false}
use lib.ListN.{drop}
use Rattle.basics.specs.Choice.{and}
use Rattle.basics.specs.Tests.{all}
use Rattle.basics.proofs.Sums.{zero_plus}
use Rattle.refusal.specs.declared.Cause.{Cause}
use Rattle.text.specs.declared.Decoded.{Decoded}
use Rattle.text.specs.declared.Decoded.TheVariants.{Char, End, Ill}
use Rattle.text.specs.Utf8.{decoded}
use Rattle.text.specs.Chars.{chars}
use Rattle.text.proofs.Places.{char_chars, end_chars, ill_chars}
use Rattle.classes.specs.Identifiers.{id_start, id_continue, is_ident}

-- the answer from `at` on is the answer from `from` on
pub record Onward (l s : List ℕ) (from at : ℕ) : Type 0 where
  pub same : all (id_continue l) (chars (drop at s)) ≡ all (id_continue l) (chars (drop from s))

pub onward_none : (l s : List ℕ) (from : ℕ) → Onward l s from from
onward_none l s from = record { same = refl }

module _ (l s : List ℕ) (from at : ℕ) {d : Decoded} (g : Onward l s from at) (e : d ≡ decoded (drop at s)) where
  module _ {c w : ℕ} (k : d ≡ Char c w) {r : Bool} (f : r ≡ id_continue l c) where
    next : all (id_continue l) (chars (drop from s)) ≡ and r (all (id_continue l) (chars (drop (at + w) s)))
    next = sym g.same ∙ ap (all (id_continue l)) (char_chars s at e k) ∙ ap (λ (b : Bool). and b (all (id_continue l) (chars (drop (at + w) s)))) (sym f)

    pub onward_more : r ≡ true → Onward l s from (at + w)
    onward_more t = record { same = sym (next ∙ rw t) }

    pub onward_not : r ≡ false → false ≡ all (id_continue l) (chars (drop from s))
    onward_not t = sym (next ∙ rw t)

  pub onward_end : d ≡ End → true ≡ all (id_continue l) (chars (drop from s))
  onward_end k = sym (sym g.same ∙ ap (all (id_continue l)) (end_chars s at e k))

  pub onward_ill : {x : Cause} → d ≡ Ill x → true ≡ all (id_continue l) (chars (drop from s))
  onward_ill k = sym (sym g.same ∙ ap (all (id_continue l)) (ill_chars s at e k))

-- the whole text, by its first character
module _ (a b s : List ℕ) {d : Decoded} (e : d ≡ decoded (drop 0 s)) where
  module _ {c w : ℕ} (k : d ≡ Char c w) {r : Bool} (f : r ≡ id_start a c) where
    whole : is_ident a b (chars s) ≡ and r (all (id_continue b) (chars (drop w s)))
    whole =
        ap (is_ident a b) (char_chars s 0 e k) ∙ ap (λ (t : Bool). and t (all (id_continue b) (chars (drop (0 + w) s)))) (sym f)
        ∙ ap (λ (n : ℕ). and r (all (id_continue b) (chars (drop n s)))) (zero_plus w)

    pub ident_more : {q : Bool} → r ≡ true → q ≡ all (id_continue b) (chars (drop w s)) → q ≡ is_ident a b (chars s)
    ident_more t m = m ∙ sym (whole ∙ rw t)

    pub ident_not : r ≡ false → false ≡ is_ident a b (chars s)
    ident_not t = sym (whole ∙ rw t)

  pub ident_end : d ≡ End → false ≡ is_ident a b (chars s)
  ident_end k = sym (ap (is_ident a b) (end_chars s 0 e k))

  pub ident_ill : {x : Cause} → d ≡ Ill x → false ≡ is_ident a b (chars s)
  ident_ill k = sym (ap (is_ident a b) (ill_chars s 0 e k))
