-- Numbers, after the first digit: modes GotZero, InDigits, InBased, InHex, GotDot, InFraction, GotE, InExponent.
use Prim.Native.Nat.{ℕ, ◌+◌}
use mathlib.Core.Path.{◌≡◌, refl, sym, ap}
use mathlib.Core.List.{List, [], ◌∷◌}
use mathlib.Core.Bool.{Bool, true, false}
use lib.ListN.{get_or}
use borrow.Author.Tests.{eqb-true}
use Rattle.basics.specs.Choice.{pick, or}
use Rattle.text.specs.Chars.{width}
use Rattle.classes.specs.Identifiers.{digit}
use Rattle.eaters.specs.Eat.{Got}
use Rattle.token.specs.Names.{is, 'dot', 'b', 'o', 'x'}
use Rattle.token.specs.Lists.{Lists, starting}
use Rattle.token.specs.Numbers.{hex_digit, decimals, hexadecimals}
use Rattle.machine.specs.declared.Mode.TheVariants.{GotZero, InDigits, InBased, InHex, GotDot, InFraction, GotE, InExponent}
use Rattle.machine.specs.Machine.{Result, put, taken, at_start, at_suffix, sign_mark, exponent_mark, at_fraction, at_exponent, step}
use Rattle.machine.proofs.Eating.{more, here}
use Rattle.machine.proofs.ByTokens.{key_from, keep, keep_more}
use Rattle.machine.proofs.ToCome.{suffix_rest, exponent_rest, e_rest, fraction_rest, digits_end, digits_rest, based_rest, zero_rest}
use Rattle.machine.proofs.Goes.{After, Goes, Steps, Keeps, goes, cases_any, through, kept, alike, alike_any, kept_or}
use Rattle.machine.proofs.Begins.{begins, dot_again}
use Rattle.machine.proofs.Words.{at_suffix_lem}

module _ (L : Lists) (st p c : ℕ) (cs : List ℕ) where
  pub at_exponent_lem : Keeps L st p c cs (at_exponent L st p c) (exponent_rest L (c ∷ cs))
  at_exponent_lem = kept_or (decimals c) InExponent (exponent_rest L cs) refl (at_suffix_lem L st p c cs)

  pub at_e : Keeps L st p c cs (step L st p GotE c) (e_rest L (c ∷ cs))
  at_e = kept_or (sign_mark c) InExponent (exponent_rest L cs) refl at_exponent_lem

  -- after the digits and the fraction
  at_tail : Keeps L st p c cs (pick (exponent_mark c) (taken c GotE st) (at_suffix L st p c)) (pick (exponent_mark c) (more (e_rest L cs)) (suffix_rest L (c ∷ cs)))
  at_tail = kept_or (exponent_mark c) GotE (e_rest L cs) refl (at_suffix_lem L st p c cs)

  pub at_in_fraction : Keeps L st p c cs (step L st p InFraction c) (fraction_rest L (c ∷ cs))
  at_in_fraction = kept_or (decimals c) InFraction (fraction_rest L cs) refl at_tail

  -- at a point, where x: it is no part of the number, and y: a digit comes after it
  abbrev dotted : (x y : Bool) → Got Bool
  dotted x y = pick x here (more (pick y (fraction_rest L cs) here))

  at_dot : is 'dot' c ≡ true → Keeps L st p c cs (taken c GotDot st) (dotted (or (is 'dot' (get_or cs 0 0)) (starting L (get_or cs 0 0))) (digit (get_or cs 0 0)))
  unfolding After
  at_dot e = rw (eqb-true c 'dot' e) (record { is_so = go (or (is 'dot' (get_or cs 0 0)) (starting L (get_or cs 0 0))) (digit (get_or cs 0 0)) })
    where
      go : (x y : Bool) → put ('dot' ∷ []) (pick x (key_from L 0 (p + width 'dot') false cs) (pick y (keep L st (p + width 'dot') (fraction_rest L cs) cs) (key_from L 0 (p + width 'dot') false cs))) ≡ keep L st p (dotted x y) ('dot' ∷ cs)
      go true y = dot_again L st p cs
      go false true = keep_more L st p 'dot' (fraction_rest L cs) cs
      go false false = refl

  -- after the digits
  at_fraction_lem : Keeps L st p c cs (at_fraction L st p c) (digits_end L (c ∷ cs))
  at_fraction_lem = alike (is 'dot' c) at_dot (λ e. at_tail)

  pub at_digits : Keeps L st p c cs (step L st p InDigits c) (digits_rest L (c ∷ cs))
  at_digits = kept_or (decimals c) InDigits (digits_rest L cs) refl at_fraction_lem

  -- after the digits of another base; h: one that counts came
  at_based_end : (h : Bool) → Keeps L st p c cs (pick h (at_fraction L st p c) (at_suffix L st p c)) (pick h (digits_end L (c ∷ cs)) (suffix_rest L (c ∷ cs)))
  at_based_end h = alike h (λ e. at_fraction_lem) (λ e. at_suffix_lem L st p c cs)

  pub at_based : (h : Bool) → Keeps L st p c cs (step L st p (InBased h) c) (based_rest L decimals digit h (c ∷ cs))
  at_based h = kept_or (decimals c) (InBased (or h (digit c))) (based_rest L decimals digit (or h (digit c)) cs) refl (at_based_end h)

  pub at_hex : (h : Bool) → Keeps L st p c cs (step L st p (InHex h) c) (based_rest L hexadecimals hex_digit h (c ∷ cs))
  at_hex h = kept_or (hexadecimals c) (InHex (or h (hex_digit c))) (based_rest L hexadecimals hex_digit (or h (hex_digit c)) cs) refl (at_based_end h)

  pub at_zero : Keeps L st p c cs (step L st p GotZero c) (zero_rest L (c ∷ cs))
  at_zero = kept_or (or (is 'b' c) (is 'o' c)) (InBased false) (based_rest L decimals digit false cs) refl (kept_or (is 'x' c) (InHex false) (based_rest L hexadecimals hex_digit false cs) refl at_digits)

  pub at_got_dot : Steps L st p GotDot c cs
  at_got_dot = alike_any (or (is 'dot' c) (starting L c)) next (cases_any (digit c) (λ e. through (goes (more_digits e)) (sym (ap after e))) (λ e. through next (sym (ap after e))))
    where
      next : Goes L (at_start L p false c) (p + width c) cs (key_from L 0 p false (c ∷ cs))
      next = record { is_so = begins L p false c cs }

      after : Bool → Result
      after y = pick y (keep L st p (fraction_rest L (c ∷ cs)) (c ∷ cs)) (key_from L 0 p false (c ∷ cs))

      more_digits : digit c ≡ true → Keeps L st p c cs (taken c InFraction st) (fraction_rest L (c ∷ cs))
      more_digits e = kept InFraction (fraction_rest L cs) refl (rw e)
