-- Literals from their bodies, in the facts of the code.
use Prim.Native.Nat.{ℕ, ◌+◌}
use mathlib.Core.Path.{◌≡◌, refl, sym, ap, subst, ◌∙◌}
use mathlib.Core.Bool.{Bool, true, false}
use mathlib.Core.List.{List}
use lib.ListN.{take}
use native.Mathlib.Omega.{arith}
use Rattle.text.specs.Chars.{size}
use Rattle.eaters.specs.Eat.{Eater, Read, give, nothing, ◌>>=◌, ◌>>◌}
use Rattle.eaters.specs.Scan.{scan}
use Rattle.eaters.proofs.Fits.{Fits}
use Rattle.std.specs.Prelude.{Option, Some, None, is_some}
use Rattle.token.specs.declared.LiteralKind.{LiteralKind}
use Rattle.token.specs.declared.TokenKind.TheVariants as kind
use Rattle.token.specs.Lists.{Lists}
use Rattle.token.specs.Literals.{identifier, Body, suffix}
use Rattle.token.specs.Quotes.{quoted, double_turn, double_quoted, single, single_quoted}
use Rattle.token.specs.Numbers.{number}
use Rattle.token.specs.RawStrings.{raw_string}
use Rattle.token.proofs.Takes.{fits_single, fits_double, fits_raw, fits_number}
use Rattle.cursor.specs.declared.Cursor.{Cursor}
use Rattle.cursor.specs.declared.Kinded.TheVariants.{Literal}
use Rattle.cursor.specs.declared.Scanned.{Scanned}
use Rattle.cursor.specs.Cursors.{rest}
use Rattle.cursor.specs.Moved.{passed}
use Rattle.cursor.specs.Ran.{Ran, kind_from, Past}
use Rattle.cursor.proofs.Runs.{ran_word, ran_give, ran_bind, ran_then, ran_say, ran_texted, ran_this, ran_that, ran_bytes}
use Rattle.quoted.specs.declared.RawQuoted.{RawQuoted}
use Rattle.quoted.specs.Raws.{raw_body, RawRan}
use Rattle.literals.specs.Forms.{SuffixRan, LiteralRan}

-- a suffix is read, or not
pub suffix_read : (L : Lists) (k : LiteralKind) {u : Bool} {s : List ℕ} {c d : Cursor} → u ≡ true → Ran (identifier L) s c d tt → SuffixRan L k u s c (record { kind = Literal k c; next = d })
suffix_read L k e r = record { kind = refl; ran = ran_this (identifier L) nothing e r }

pub suffix_none : (L : Lists) (k : LiteralKind) {u : Bool} {s : List ℕ} {c : Cursor} → u ≡ false → SuffixRan L k u s c (record { kind = Literal k c; next = c })
suffix_none L k {s = s} {c} e = record { kind = refl; ran = ran_that (identifier L) nothing e (ran_give tt s c) }

-- A LITERAL: its body, and then its suffix
module _ (L : Lists) (m : Eater Body) (f : Fits 0 m) {s : List ℕ} {a b : Cursor} {x : Body} {r : Scanned} where
  pub literal_in : Ran m s a b x → SuffixRan L x.kind x.suffixed s b r → LiteralRan L m s a r
  literal_in p q =
      let n : b.at ≡ a.at + size (take (m (rest s a)).took (rest s a)) = ran_bytes m p (f.fits (rest s a) (omega arith)) in
      record {
        past = subst (Past a r.next) (sym q.kind) (record { from = omega arith; to = omega (arith, (passed q.ran.moved).bytes) });
        ran = λ before. ran_word
            (ran_bind (λ (y : Read Body). suffix L y.said.suffixed >> give (kind.Literal y.said.kind (before + size y.text))) (ran_texted p) (ran_then q.ran (ran_give _ s r.next)))
            (ap (kind_from before a) q.kind ∙ ap (kind.Literal x.kind) (omega arith));
      }

-- a quoted literal, whatever reads it
module _ (L : Lists) (m : Eater Bool) (mk : Bool → LiteralKind) (f : Fits 0 (m >>= (λ (t : Bool). give (quoted mk t)))) {s : List ℕ} {a b : Cursor} {t : Bool} {k : LiteralKind} {r : Scanned} where
  quoted_in : Ran m s a b t → k ≡ mk t → SuffixRan L k t s b r → LiteralRan L (m >>= (λ (t : Bool). give (quoted mk t))) s a r
  quoted_in p e q = literal_in L _ f (ran_say (quoted mk) p) (subst (λ (j : LiteralKind). SuffixRan L j t s b r) e q)

module _ (L : Lists) {s : List ℕ} {a b : Cursor} {t : Bool} {k : LiteralKind} {r : Scanned} where
  pub single_in : (mk : Bool → LiteralKind) → Ran single s a b t → k ≡ mk t → SuffixRan L k t s b r → LiteralRan L (single_quoted mk) s a r
  single_in mk = quoted_in L single mk (fits_single mk)

  pub double_in : (mk : Bool → LiteralKind) → Ran (scan double_turn 0 1) s a b t → k ≡ mk t → SuffixRan L k t s b r → LiteralRan L (double_quoted mk) s a r
  double_in mk = quoted_in L (scan double_turn 0 1) mk (fits_double mk)

pub number_in : (L : Lists) (c : ℕ) {s : List ℕ} {a b : Cursor} {k : LiteralKind} {r : Scanned} → Ran (number L c) s a b (record { kind = k; suffixed = true }) → SuffixRan L k true s b r → LiteralRan L (number L c) s a r
number_in L c p q = literal_in L (number L c) (fits_number L c) p q

-- a raw string: with a count, a suffix is read
raw_word : (mk : Option ℕ → LiteralKind) (n : Option ℕ) → record { kind = mk n; suffixed = is_some n } ≡ raw_body mk n
raw_word mk (Some n) = refl
raw_word mk None = refl

pub raw_in : (L : Lists) (mk : Option ℕ → LiteralKind) {s : List ℕ} {a : Cursor} {x : RawQuoted} {k : LiteralKind} {u : Bool} {r : Scanned} → RawRan s a x → k ≡ mk x.count → u ≡ is_some x.count → SuffixRan L k u s x.next r → LiteralRan L (raw_string mk) s a r
raw_in L mk {s} {x = x} {k} {r = r} p e h q =
    let y : SuffixRan L k (is_some x.count) s x.next r = subst (λ (t : Bool). SuffixRan L k t s x.next r) h q in
    literal_in L (raw_string mk) (fits_raw mk) (ran_word (p.ran mk) (raw_word mk x.count)) (subst (λ (j : LiteralKind). SuffixRan L j (is_some x.count) s x.next r) e y)
