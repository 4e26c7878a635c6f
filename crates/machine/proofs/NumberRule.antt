-- What the book's rule of numbers takes, with the suffix, is what is to come after the first digit: for the modes GotZero and InDigits, in which a number begins.
use Prim.Native.Nat.{ℕ, suc, ◌+◌}
use mathlib.Core.Path.{◌≡◌, refl, sym, ap, ◌∙◌}
use mathlib.Core.List.{List, [], ◌∷◌}
use mathlib.Core.Bool.{Bool, true, false}
use lib.ListN.{length, get_or, drop}
use borrow.Author.Tests.{eqb-true}
use native.Mathlib.Omega.{arith}
use Rattle.basics.specs.Choice.{pick, and, or}
use Rattle.basics.proofs.Sums.{zero_plus}
use Rattle.classes.specs.Identifiers.{digit, letter, id_start}
use Rattle.eaters.specs.Eat.{Got, Eater, give, eat, take_while, while, ◌>>=◌, ◌>>◌, choose}
use Rattle.eaters.specs.Look.{if_at, if_two}
use Rattle.token.specs.declared.Base.{Base}
use Rattle.token.specs.declared.Base.TheVariants.{Binary, Octal, Decimal, Hexadecimal}
use Rattle.token.specs.Names.{is, 'dot', '0', 'b', 'o', 'x'}
use Rattle.token.specs.Lists.{Lists, starting}
use Rattle.token.specs.Literals.{Body, literal}
use Rattle.token.specs.Numbers.{any, hex_digit, decimals, hexadecimals, int, float, exponent, maybe_exponent, fraction, based, decimal, number}
use Rattle.machine.specs.Machine.{sign_mark, exponent_mark}
use Rattle.machine.proofs.Eating.{suc_add, one_add, right, or_or, more, here}
use Rattle.machine.proofs.ByTokens.{whole_literal, judged}
use Rattle.machine.proofs.ToCome.{suffix_rest, exponent_rest, e_rest, fraction_rest, digits_end, digits_rest, based_rest, zero_rest}
use Rattle.machine.proofs.Literals.{suffix_no, lit_view}

module _ (L : Lists) where
  dot_starts_not : starting L 'dot' ≡ false
  unfolding id_start letter
  dot_starts_not = refl

  -- a number is never broken, and a suffix may follow
  record Counts (m : Eater Body) : Type 0 where
    whole_so : (cs : List ℕ) → whole_literal (m cs).said.kind ≡ true
    open_so : (cs : List ℕ) → (m cs).said.suffixed ≡ true

  count_int : (b : Base) (n : Bool) → Counts (give (int b n))
  unfolding give
  count_int b n = record { whole_so = λ cs. refl; open_so = λ cs. refl }

  count_float : (b : Base) (n : Bool) → Counts (give (float b n))
  unfolding give
  count_float b n = record { whole_so = λ cs. refl; open_so = λ cs. refl }

  count_bind : {A : Type 0} (m : Eater A) {f : A → Eater Body} → ((x : A) → Counts (f x)) → Counts (m >>= f)
  unfolding ◌>>=◌
  count_bind m h = record { whole_so = λ cs. (h (m cs).said).whole_so (drop (m cs).took cs); open_so = λ cs. (h (m cs).said).open_so (drop (m cs).took cs) }

  count_choose : {x y : Eater Body} (b : Bool) → Counts x → Counts y → Counts (choose b x y)
  unfolding choose
  count_choose true p q = p
  count_choose false p q = q

  count_if_at : {x y : Eater Body} (p : ℕ → Bool) → Counts x → Counts y → Counts (if_at p x y)
  unfolding if_at choose
  count_if_at p h k = record { whole_so = λ cs. (count_choose (p (get_or cs 0 0)) h k).whole_so cs; open_so = λ cs. (count_choose (p (get_or cs 0 0)) h k).open_so cs }

  count_if_two : {x y : Eater Body} (p q : ℕ → Bool) → Counts x → Counts y → Counts (if_two p q x y)
  unfolding if_two choose
  count_if_two p q h k = record { whole_so = λ cs. (count_choose (and (p (get_or cs 0 0)) (q (get_or cs 1 0))) h k).whole_so cs; open_so = λ cs. (count_choose (and (p (get_or cs 0 0)) (q (get_or cs 1 0))) h k).open_so cs }

  count_exponent : (b : Base) → Counts (exponent b)
  count_exponent b = count_bind _ (λ x. count_bind _ (λ t. count_float b _))

  count_fraction : (b : Base) → Counts (fraction L b)
  count_fraction b =
      count_if_two _ _ (count_int b false)
      (count_if_at _ (count_bind _ (λ x. count_if_at _ (count_bind _ (λ t. count_if_at _ (count_bind _ (λ x. count_exponent b)) (count_float b false))) (count_float b false)))
      (count_if_at _ (count_bind _ (λ x. count_exponent b)) (count_int b false)))

  count_based : (b : Base) (P Q : ℕ → Bool) → Counts (based L b P Q)
  count_based b P Q = count_bind _ (λ t. count_choose _ (count_fraction b) (count_int b true))

  count_decimal : Counts (decimal L)
  count_decimal = count_bind _ (λ t. count_fraction Decimal)

  count_number : (c : ℕ) → Counts (number L c)
  count_number c =
      count_choose _ (count_if_at _ (count_bind _ (λ x. count_based Binary decimals digit)) (count_if_at _ (count_bind _ (λ x. count_based Octal decimals digit)) (count_if_at _ (count_bind _ (λ x. count_based Hexadecimal hexadecimals hex_digit)) count_decimal))) count_decimal

  -- n characters, and the suffix after them
  abbrev with_suffix : ℕ → List ℕ → Got Bool
  with_suffix n cs = record { took = n + (suffix_rest L (drop n cs)).took; said = true }

  -- A NUMBER: what its rule takes, and the suffix
  pub number_view : (c k : ℕ) (cs : List ℕ) → judged (literal L k (number L c) cs) ≡ with_suffix (number L c cs).took cs
  number_view c k cs = lit_view L k (number L c) cs ((count_number c).whole_so cs ∙ sym ((count_number c).open_so cs)) ∙ rw ((count_number c).open_so cs)

  with_more : (n c : ℕ) (cs : List ℕ) → with_suffix (suc n) (c ∷ cs) ≡ more (with_suffix n cs)
  with_more n c cs = rw (suc_add n (suffix_rest L (drop n cs)).took)

  with_none : (cs : List ℕ) → with_suffix 0 cs ≡ suffix_rest L cs
  with_none cs = rw (zero_plus (suffix_rest L cs).took)

  with_by : {n k : ℕ} (cs : List ℕ) → n ≡ k → with_suffix n cs ≡ with_suffix k cs
  with_by cs e = ap (λ (z : ℕ). with_suffix z cs) e

  -- after e, after the point, after the digits: each part of the rule is what is to come in its mode
  exponent_view : (cs : List ℕ) → with_suffix (length (take_while decimals cs)) cs ≡ exponent_rest L cs
  exponent_view [] = refl
  exponent_view (c ∷ cs) = go (decimals c) (exponent_view cs)
    where
      go : (s : Bool) → with_suffix (length (take_while decimals cs)) cs ≡ exponent_rest L cs → with_suffix (length (pick s (c ∷ take_while decimals cs) [])) (c ∷ cs) ≡ pick s (more (exponent_rest L cs)) (suffix_rest L (c ∷ cs))
      go true i = with_more (length (take_while decimals cs)) c cs ∙ ap more i
      go false i = with_none (c ∷ cs)

  e_view : (b : Base) (cs : List ℕ) → with_suffix (exponent b cs).took cs ≡ e_rest L cs
  unfolding ◌>>=◌ while give if_at eat
  e_view b [] = refl
  e_view b (c ∷ cs) = go (sign_mark c) refl
    where
      go : (s : Bool) → sign_mark c ≡ s → with_suffix (exponent b (c ∷ cs)).took (c ∷ cs) ≡ pick s (more (exponent_rest L cs)) (exponent_rest L (c ∷ cs))
      go true e =
          let q : (exponent b (c ∷ cs)).took ≡ suc (length (take_while decimals cs)) = rw e (omega arith) in
          with_by (c ∷ cs) q ∙ with_more (length (take_while decimals cs)) c cs ∙ ap more (exponent_view cs)
      go false e =
          let q : (exponent b (c ∷ cs)).took ≡ length (take_while decimals (c ∷ cs)) = rw e (omega arith) in
          with_by (c ∷ cs) q ∙ exponent_view (c ∷ cs)

  abbrev fraction_digits : Base → Eater Body
  fraction_digits b = while decimals >> maybe_exponent b (float b false)

  fraction_view : (b : Base) (cs : List ℕ) → with_suffix (fraction_digits b cs).took cs ≡ fraction_rest L cs
  unfolding ◌>>=◌ while give if_at eat
  fraction_view b [] = refl
  fraction_view b (c ∷ cs) = go (decimals c) refl (exponent_mark c) refl (fraction_view b cs)
    where
      go : (s : Bool) → decimals c ≡ s → (t : Bool) → exponent_mark c ≡ t → with_suffix (fraction_digits b cs).took cs ≡ fraction_rest L cs → with_suffix (fraction_digits b (c ∷ cs)).took (c ∷ cs) ≡ pick s (more (fraction_rest L cs)) (pick t (more (e_rest L cs)) (suffix_rest L (c ∷ cs)))
      go true e t f i =
          let q : (fraction_digits b (c ∷ cs)).took ≡ suc (fraction_digits b cs).took = rw e (omega arith) in
          with_by (c ∷ cs) q ∙ with_more (fraction_digits b cs).took c cs ∙ ap more i
      go false e true f i =
          let q : (fraction_digits b (c ∷ cs)).took ≡ suc (exponent b cs).took = rw (e, f) (omega arith) in
          with_by (c ∷ cs) q ∙ with_more (exponent b cs).took c cs ∙ ap more (e_view b cs)
      go false e false f i =
          let q : (fraction_digits b (c ∷ cs)).took ≡ 0 = rw (e, f) in
          with_by (c ∷ cs) q ∙ with_none (c ∷ cs)

  digits_end_view : (b : Base) (cs : List ℕ) → with_suffix (fraction L b cs).took cs ≡ digits_end L cs
  unfolding if_two if_at ◌>>=◌ eat give
  digits_end_view b [] = refl
  digits_end_view b (c ∷ cs) = go (is 'dot' c) refl (exponent_mark c) refl
    where
      e : ℕ
      e = get_or cs 0 0

      last : starting L e ≡ false → suffix_rest L cs ≡ here
      last f = suffix_no L cs f

      dot : (x : Bool) → or (is 'dot' e) (starting L e) ≡ x → (y : Bool) → digit e ≡ y → with_suffix (fraction L b ('dot' ∷ cs)).took ('dot' ∷ cs) ≡ pick x here (more (pick y (fraction_rest L cs) here))
      dot true f y g =
          let q : (fraction L b ('dot' ∷ cs)).took ≡ 0 = rw f in
          with_by ('dot' ∷ cs) q ∙ with_none ('dot' ∷ cs) ∙ suffix_no L ('dot' ∷ cs) dot_starts_not
      dot false f true g =
          let q : (fraction L b ('dot' ∷ cs)).took ≡ suc (fraction_digits b cs).took = rw (f, g) (omega arith) in
          with_by ('dot' ∷ cs) q ∙ with_more (fraction_digits b cs).took 'dot' cs ∙ ap more (fraction_view b cs)
      dot false f false g =
          let q : (fraction L b ('dot' ∷ cs)).took ≡ 1 = rw (f, g) in
          with_by ('dot' ∷ cs) q ∙ with_more 0 'dot' cs ∙ ap more (with_none cs ∙ last (right (is 'dot' e) (starting L e) f))

      go : (s : Bool) → is 'dot' c ≡ s → (t : Bool) → exponent_mark c ≡ t → with_suffix (fraction L b (c ∷ cs)).took (c ∷ cs) ≡ pick s (pick (or (is 'dot' e) (starting L e)) here (more (pick (digit e) (fraction_rest L cs) here))) (pick t (more (e_rest L cs)) (suffix_rest L (c ∷ cs)))
      go true f t g = rw (eqb-true c 'dot' f) (dot (or (is 'dot' e) (starting L e)) refl (digit e) refl)
      go false f true g =
          let q : (fraction L b (c ∷ cs)).took ≡ suc (exponent b cs).took = rw (f, g) (omega arith) in
          with_by (c ∷ cs) q ∙ with_more (exponent b cs).took c cs ∙ ap more (e_view b cs)
      go false f false g =
          let q : (fraction L b (c ∷ cs)).took ≡ 0 = rw (f, g) in
          with_by (c ∷ cs) q ∙ with_none (c ∷ cs)

  digits_view : (b : Base) (cs : List ℕ) → with_suffix ((while decimals >> fraction L b) cs).took cs ≡ digits_rest L cs
  unfolding ◌>>=◌ while
  digits_view b [] = with_by [] (zero_plus (fraction L b []).took) ∙ digits_end_view b []
  digits_view b (c ∷ cs) = go (decimals c) refl (digits_view b cs)
    where
      go : (s : Bool) → decimals c ≡ s → with_suffix ((while decimals >> fraction L b) cs).took cs ≡ digits_rest L cs → with_suffix ((while decimals >> fraction L b) (c ∷ cs)).took (c ∷ cs) ≡ pick s (more (digits_rest L cs)) (digits_end L (c ∷ cs))
      go true e i =
          let q : ((while decimals >> fraction L b) (c ∷ cs)).took ≡ suc ((while decimals >> fraction L b) cs).took = rw (e, suc_add) in
          with_by (c ∷ cs) q ∙ with_more ((while decimals >> fraction L b) cs).took c cs ∙ ap more i
      go false e i =
          let q : ((while decimals >> fraction L b) (c ∷ cs)).took ≡ (fraction L b (c ∷ cs)).took = rw (e, zero_plus) in
          with_by (c ∷ cs) q ∙ digits_end_view b (c ∷ cs)

  -- a number that begins with no 0
  pub other_view : (c : ℕ) (cs : List ℕ) → is '0' c ≡ false → with_suffix (number L c cs).took cs ≡ digits_rest L cs
  unfolding choose
  other_view c cs e =
      let q : (number L c cs).took ≡ (decimal L cs).took = rw e in
      with_by cs q ∙ digits_view Decimal cs

  module _ (b : Base) (P Q : ℕ → Bool) where
    -- digits P of a base, where h says that one that counts came before
    abbrev based_of : Bool → Eater Body
    based_of h = while P >>= (λ t. choose (or h (any Q t)) (fraction L b) (give (int b true)))

    based_view : (h : Bool) (cs : List ℕ) → with_suffix (based_of h cs).took cs ≡ based_rest L P Q h cs
    unfolding ◌>>=◌ while choose give
    based_view true [] = with_by [] (zero_plus (fraction L b []).took) ∙ digits_end_view b []
    based_view false [] = refl
    based_view h (c ∷ cs) = go (P c) refl (based_view (or h (Q c)) cs)
      where
        longer : P c ≡ true → (based_of h (c ∷ cs)).took ≡ suc (based_of (or h (Q c)) cs).took
        longer e = rw (e, suc_add, or_or h (Q c) (any Q (take_while P cs)))

        ended : P c ≡ false → (x : Bool) → with_suffix (based_of x (c ∷ cs)).took (c ∷ cs) ≡ pick x (digits_end L (c ∷ cs)) (suffix_rest L (c ∷ cs))
        ended e true =
            let q : (based_of true (c ∷ cs)).took ≡ (fraction L b (c ∷ cs)).took = rw (e, zero_plus) in
            with_by (c ∷ cs) q ∙ digits_end_view b (c ∷ cs)
        ended e false =
            let q : (based_of false (c ∷ cs)).took ≡ 0 = rw e in
            with_by (c ∷ cs) q ∙ with_none (c ∷ cs)

        go : (s : Bool) → P c ≡ s → with_suffix (based_of (or h (Q c)) cs).took cs ≡ based_rest L P Q (or h (Q c)) cs → with_suffix (based_of h (c ∷ cs)).took (c ∷ cs) ≡ pick s (more (based_rest L P Q (or h (Q c)) cs)) (pick h (digits_end L (c ∷ cs)) (suffix_rest L (c ∷ cs)))
        go true e i = with_by (c ∷ cs) (longer e) ∙ with_more (based_of (or h (Q c)) cs).took c cs ∙ ap more i
        go false e i = ended e h

  -- a number that begins with 0
  pub zero_view : (cs : List ℕ) → with_suffix (number L '0' cs).took cs ≡ zero_rest L cs
  unfolding choose if_at ◌>>=◌ eat
  zero_view [] = digits_view Decimal []
  zero_view (c ∷ cs) = go (is 'b' c) refl (is 'o' c) refl (is 'x' c) refl
    where
      go : (x : Bool) → is 'b' c ≡ x → (y : Bool) → is 'o' c ≡ y → (z : Bool) → is 'x' c ≡ z → with_suffix (number L '0' (c ∷ cs)).took (c ∷ cs) ≡ pick (or x y) (more (based_rest L decimals digit false cs)) (pick z (more (based_rest L hexadecimals hex_digit false cs)) (digits_rest L (c ∷ cs)))
      go true e y f z g =
          let q : (number L '0' (c ∷ cs)).took ≡ suc (based_of Binary decimals digit false cs).took = rw (e, one_add) in
          with_by (c ∷ cs) q ∙ with_more (based_of Binary decimals digit false cs).took c cs ∙ ap more (based_view Binary decimals digit false cs)
      go false e true f z g =
          let q : (number L '0' (c ∷ cs)).took ≡ suc (based_of Octal decimals digit false cs).took = rw (e, f, one_add) in
          with_by (c ∷ cs) q ∙ with_more (based_of Octal decimals digit false cs).took c cs ∙ ap more (based_view Octal decimals digit false cs)
      go false e false f true g =
          let q : (number L '0' (c ∷ cs)).took ≡ suc (based_of Hexadecimal hexadecimals hex_digit false cs).took = rw (e, f, g, one_add) in
          with_by (c ∷ cs) q ∙ with_more (based_of Hexadecimal hexadecimals hex_digit false cs).took c cs ∙ ap more (based_view Hexadecimal hexadecimals hex_digit false cs)
      go false e false f false g =
          let q : (number L '0' (c ∷ cs)).took ≡ (decimal L (c ∷ cs)).took = rw (e, f, g) in
          with_by (c ∷ cs) q ∙ digits_view Decimal (c ∷ cs)
