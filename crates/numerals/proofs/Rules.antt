-- The rules of numbers, from the runs of their scans, in the facts of the code.
use Prim.Native.Nat.{ℕ}
use mathlib.Core.Path.{◌≡◌, refl, sym, ap, ◌∙◌}
use mathlib.Core.Bool.{Bool, true, false, not}
use mathlib.Core.List.{List}
use mathlib.Core.Logic.{◌⊎◌, inl, inr}
use lib.Dec.{eqb}
use lib.ListN.{get_or, drop}
use borrow.Author.Tests.{ne_eqb}
use Rattle.basics.specs.Choice.{or}
use Rattle.classes.specs.Identifiers.{digit}
use Rattle.eaters.specs.Eat.{Eater, give, nothing, take_while, while, ◌>>◌}
use Rattle.eaters.specs.Look.{if_eat}
use Rattle.token.specs.declared.Base.{Base}
use Rattle.token.specs.declared.Base.TheVariants.{Binary, Octal, Decimal, Hexadecimal}
use Rattle.token.specs.declared.LiteralKind.{LiteralKind}
use Rattle.token.specs.declared.LiteralKind.TheVariants.{Int, Float}
use Rattle.token.specs.Names.{is, '+', '-', 'dot', 'E', 'b', 'e', 'o', 'x'}
use Rattle.token.specs.Lists.{Lists, starting}
use Rattle.token.specs.Literals.{Body}
use Rattle.token.specs.Numbers.{any, hex_digit, decimals, hexadecimals, int, float, sign, exponent, maybe_exponent, after_point, fraction, after_digits, based, decimal, number}
use Rattle.cursor.specs.declared.Cursor.{Cursor}
use Rattle.cursor.specs.Cursors.{rest}
use Rattle.cursor.specs.Moved.{Moved}
use Rattle.cursor.specs.Ran.{Ran}
use Rattle.cursor.proofs.Runs.{ran_word, ran_give, ran_bind, ran_then, ran_yes, ran_no, ran_take, ran_both, ran_not_both, ran_this, ran_that}
use Rattle.cursor.proofs.Loops.{ran_while}
use Rattle.numerals.specs.declared.Digits.{Digits}
use Rattle.numerals.specs.Counts.{CountedDigits}

-- what holds at two points holds of a character that is one of them
either_point : (p : ℕ → Bool) (c k m : ℕ) → p k ≡ true → p m ≡ true → (c ≡ k) ⊎ (c ≡ m) → true ≡ p c
either_point p c k m s t (inl e) = sym (ap p e ∙ s)
either_point p c k m s t (inr e) = sym (ap p e ∙ t)

-- the marks of a rule, named so that a test of them can be stated
abbrev signed : ℕ → Bool
signed c = or (is '-' c) (is '+' c)

abbrev raised : ℕ → Bool
raised c = or (is 'e' c) (is 'E' c)

abbrev apart : Lists → ℕ → Bool
apart L c = or (is 'dot' c) (starting L c)

neither : (x y c : ℕ) → (c ≡ x → ⊥) → (c ≡ y → ⊥) → or (eqb c x) (eqb c y) ≡ false
neither x y c h k = rw (ne_eqb c x h, ne_eqb c y k)

-- what was counted is a run
ran_counted : {p q : ℕ → Bool} {s : List ℕ} {a : Cursor} {r : Digits} → CountedDigits p q s a r → Ran (while p) s a r.next (take_while p (rest s a))
ran_counted {p} m = ran_while p m.moved

-- a sign
module _ {s : List ℕ} {a : Cursor} {c : ℕ} (e : c ≡ get_or (rest s a) 0 0) where
  pub signed_in : {b : Cursor} → (c ≡ 0x2B) ⊎ (c ≡ 0x2D) → Moved s a b (drop 1 (rest s a)) → Ran sign s a b tt
  signed_in {b} h m = ran_take nothing nothing signed e (sym (either_point signed c 0x2B 0x2D refl refl h)) m (ran_give tt s b)

  pub unsigned_in : ((c ≡ 0x2B) ⊎ (c ≡ 0x2D) → ⊥) → Ran sign s a a tt
  unsigned_in h = ran_no _ nothing signed e (neither 0x2D 0x2B c (λ k. h (inr k)) (λ k. h (inl k))) (ran_give tt s a)

-- an exponent, after its e
module _ (base : Base) {s : List ℕ} {a b : Cursor} {t : Digits} (g : Ran sign s a b tt) (m : CountedDigits decimals digit s b t) where
  pub exponent_in : Ran (exponent base) s a t.next (float base (not t.some))
  exponent_in =
      ran_then g
      (ran_bind (λ (l : List ℕ). give (float base (not (any digit l)))) (ran_counted m)
      (ran_word (ran_give (float base (not (any digit (take_while decimals (rest s b))))) s t.next) (ap (λ (e : Bool). float base (not e)) m.noted)))

-- an exponent or none
module _ (base : Base) (k : LiteralKind) {s : List ℕ} {a : Cursor} {c : ℕ} (e : c ≡ get_or (rest s a) 0 0) where
  pub some_e : {b d : Cursor} {x : Body} → (c ≡ 0x45) ⊎ (c ≡ 0x65) → Moved s a b (drop 1 (rest s a)) → Ran (exponent base) s b d x → Ran (maybe_exponent base (record { kind = k; suffixed = true })) s a d x
  some_e h m r = ran_take (exponent base) _ raised e (sym (either_point raised c 0x45 0x65 refl refl h)) m r

  pub no_e : ((c ≡ 0x45) ⊎ (c ≡ 0x65) → ⊥) → Ran (maybe_exponent base (record { kind = k; suffixed = true })) s a a (record { kind = k; suffixed = true })
  no_e h = ran_no _ (give _) raised e (neither 0x65 0x45 c (λ n. h (inr n)) (λ n. h (inl n))) (ran_give _ s a)

-- after a point that joins
module _ (base : Base) {s : List ℕ} {a : Cursor} {c : ℕ} {t : Bool} (e : c ≡ get_or (rest s a) 0 0) (f : t ≡ digit c) where
  pub point_digits : {d : Digits} {n : Cursor} {x : Body} → t ≡ true → CountedDigits decimals digit s a d
      → Ran (maybe_exponent base (record { kind = Float base false; suffixed = true })) s d.next n x → Ran (after_point base) s a n x
  point_digits h m r = ran_yes (while decimals >> maybe_exponent base (float base false)) _ digit e (sym f ∙ h) (ran_then (ran_counted m) r)

  pub point_none : t ≡ false → Ran (after_point base) s a a (record { kind = Float base false; suffixed = true })
  point_none h = ran_no _ (give (float base false)) digit e (sym f ∙ h) (ran_give (float base false) s a)

-- after the digits of a number
module _ (L : Lists) (base : Base) {s : List ℕ} {a : Cursor} {c : ℕ} (e : c ≡ get_or (rest s a) 0 0) where
  pub no_point : {n : Cursor} {x : Body} → (c ≡ 0x2E → ⊥) → Ran (maybe_exponent base (record { kind = Int base false; suffixed = true })) s a n x → Ran (fraction L base) s a n x
  no_point h r =
      ran_not_both (give (int base false)) _ (is 'dot') (apart L) e refl (rw (ne_eqb c 0x2E h))
      (ran_no _ (maybe_exponent base (int base false)) (is 'dot') e (ne_eqb c 0x2E h) r)

  module _ (h : c ≡ 0x2E) {d : ℕ} (f : d ≡ get_or (rest s a) 1 0) where
    pub range_in : d ≡ 0x2E → Ran (fraction L base) s a a (record { kind = Int base false; suffixed = true })
    range_in k = ran_both (give (int base false)) _ (is 'dot') (apart L) e f (rw (h, k)) (ran_give (int base false) s a)

    module _ (k : d ≡ 0x2E → ⊥) {t : Bool} (g : t ≡ starting L d) where
      pub method_in : t ≡ true → Ran (fraction L base) s a a (record { kind = Int base false; suffixed = true })
      method_in y = ran_both (give (int base false)) _ (is 'dot') (apart L) e f (rw (h, ne_eqb d 0x2E k, ← g, y)) (ran_give (int base false) s a)

      pub point_in : {b n : Cursor} {x : Body} → t ≡ false → Moved s a b (drop 1 (rest s a)) → Ran (after_point base) s b n x → Ran (fraction L base) s a n x
      point_in y m r =
          ran_not_both (give (int base false)) _ (is 'dot') (apart L) e f (rw (h, ne_eqb d 0x2E k, ← g, y))
          (ran_take (after_point base) _ (is 'dot') e (rw h) m r)

-- after the digits that follow a base prefix
module _ (L : Lists) (base : Base) {s : List ℕ} {a : Cursor} {some : Bool} where
  pub digits_some : {n : Cursor} {x : Body} → some ≡ true → Ran (fraction L base) s a n x → Ran (after_digits L base some) s a n x
  digits_some h r = ran_this (fraction L base) _ h r

  pub digits_none : some ≡ false → Ran (after_digits L base some) s a a (record { kind = Int base true; suffixed = true })
  digits_none h = ran_that _ (give (int base true)) h (ran_give (int base true) s a)

pub based_in : (L : Lists) (base : Base) (p q : ℕ → Bool) {s : List ℕ} {a n : Cursor} {t : Digits} {x : Body} → CountedDigits p q s a t → Ran (after_digits L base t.some) s t.next n x → Ran (based L base p q) s a n x
based_in L base p q m r = ran_bind (λ (l : List ℕ). after_digits L base (any q l)) (ran_counted m) (rw m.noted at r)

pub decimal_in : (L : Lists) {s : List ℕ} {a n : Cursor} {t : Digits} {x : Body} → CountedDigits decimals digit s a t → Ran (fraction L Decimal) s t.next n x → Ran (decimal L) s a n x
decimal_in L m r = ran_then (ran_counted m) r

-- A NUMBER, after its first digit f
abbrev prefixed : Lists → Eater Body
prefixed L =
    if_eat (is 'b') (based L Binary decimals digit)
    (if_eat (is 'o') (based L Octal decimals digit)
    (if_eat (is 'x') (based L Hexadecimal hexadecimals hex_digit)
    (decimal L)))

module _ (L : Lists) (f : ℕ) {s : List ℕ} {a : Cursor} where
  pub nonzero_in : {n : Cursor} {x : Body} → (f ≡ 0x30 → ⊥) → Ran (decimal L) s a n x → Ran (number L f) s a n x
  nonzero_in z r = ran_that (prefixed L) (decimal L) (ne_eqb f 0x30 z) r

  module _ (z : f ≡ 0x30) {c : ℕ} (e : c ≡ get_or (rest s a) 0 0) where
    zero_in : {n : Cursor} {x : Body} → Ran (prefixed L) s a n x → Ran (number L f) s a n x
    zero_in r = ran_this (prefixed L) (decimal L) (rw z) r

    pub binary_in : {b n : Cursor} {x : Body} → c ≡ 0x62 → Moved s a b (drop 1 (rest s a)) → Ran (based L Binary decimals digit) s b n x → Ran (number L f) s a n x
    binary_in h m r = zero_in (ran_take (based L Binary decimals digit) _ (is 'b') e (rw h) m r)

    pub octal_in : {b n : Cursor} {x : Body} → c ≡ 0x6F → Moved s a b (drop 1 (rest s a)) → Ran (based L Octal decimals digit) s b n x → Ran (number L f) s a n x
    octal_in h m r = zero_in (ran_no _ _ (is 'b') e (rw h) (ran_take (based L Octal decimals digit) _ (is 'o') e (rw h) m r))

    pub hexadecimal_in : {b n : Cursor} {x : Body} → c ≡ 0x78 → Moved s a b (drop 1 (rest s a)) → Ran (based L Hexadecimal hexadecimals hex_digit) s b n x → Ran (number L f) s a n x
    hexadecimal_in h m r =
        zero_in (ran_no _ _ (is 'b') e (rw h) (ran_no _ _ (is 'o') e (rw h) (ran_take (based L Hexadecimal hexadecimals hex_digit) _ (is 'x') e (rw h) m r)))

    pub unprefixed_in : {n : Cursor} {x : Body} → (c ≡ 0x62 → ⊥) → (c ≡ 0x6F → ⊥) → (c ≡ 0x78 → ⊥) → Ran (decimal L) s a n x → Ran (number L f) s a n x
    unprefixed_in u v h r =
        zero_in (ran_no _ _ (is 'b') e (ne_eqb c 0x62 u) (ran_no _ _ (is 'o') e (ne_eqb c 0x6F v) (ran_no _ (decimal L) (is 'x') e (ne_eqb c 0x78 h) r)))
