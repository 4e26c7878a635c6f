-- Lifetimes, in the facts of the code.
use Prim.Native.Nat.{ℕ, ◌+◌, ◌≤◌}
use mathlib.Core.Path.{◌≡◌, refl, sym, ap, ◌∙◌}
use mathlib.Core.Bool.{Bool, true, false}
use mathlib.Core.List.{List}
use Rattle.std.specs.Prelude.{Some, None}
use lib.ListN.{length, get_or, take, drop}
use mathlib.Core.Logic.{⊎_elim}
use native.Mathlib.Omega.{arith}
use borrow.Author.Tests.{ne_eqb, eqb-true}
use lib.Dec.{eqb}
use Rattle.text.specs.Chars.{width, size}
use Rattle.classes.specs.Identifiers.{digit, letter, id_start}
use Rattle.basics.specs.Choice.{and, or}
use Rattle.basics.proofs.Choices.{yes_or_no}
use Rattle.eaters.proofs.Fits.{there}
use Rattle.eaters.specs.Eat.{Eater, Read, give, eat, take_while, while, choose}
use Rattle.eaters.specs.Look.{if_at, if_two, if_eat}
use Rattle.token.specs.declared.LiteralKind.TheVariants.{Char}
use Rattle.token.specs.declared.TokenKind.{TokenKind}
use Rattle.token.specs.declared.TokenKind.TheVariants.{UnknownPrefixLifetime, RawLifetime, Literal, Lifetime}
use Rattle.token.specs.Names.{is, '#', 'single', 'r'}
use Rattle.token.specs.Lists.{Lists, starting, going}
use Rattle.token.specs.Lifetimes.{lifetime_rest, lifetime, raw_name, after_quote_r, naming, lifetime_or}
use Rattle.cursor.specs.declared.Cursor.{Cursor}
use Rattle.cursor.specs.declared.Kinded.TheVariants as kinded
use Rattle.cursor.specs.declared.Scanned.{Scanned}
use Rattle.cursor.specs.Cursors.{rest}
use Rattle.cursor.specs.Moved.{Moved}
use Rattle.cursor.specs.Ran.{left, Ran, kind_from}
use Rattle.cursor.proofs.Runs.{ran_word, ran_give, ran_bind, ran_then, ran_eat, ran_eats, ran_yes, ran_no, ran_take, ran_both, ran_not_both, ran_this, ran_that, ran_texted, ran_bytes}
use Rattle.cursor.proofs.Loops.{ran_while}
use Rattle.cursor.proofs.Bytes.{while_bytes, bump_bytes, shifted, past_moved}
use Rattle.words.specs.Lives.{RestRan, RawNameRan, LifeRan, found, other}

-- after the name: what the rule says of the characters t that it took
abbrev ending : Bool → ℕ → List ℕ → Eater TokenKind
ending numbered before t =
    if_eat (is 'single') (give (Literal (Char true) (before + size t + 1)))
    (choose numbered (give (Lifetime true)) (if_at (is '#') (give UnknownPrefixLifetime) (give (Lifetime false))))

module _ (L : Lists) (b : Bool) {s : List ℕ} {a n : Cursor} (m : Moved s a n (left (while (going L)) (rest s a))) {c : ℕ} (e : c ≡ get_or (rest s n) 0 0) where
  named : (before : ℕ) {d : Cursor} {x : TokenKind} → Ran (ending b before (take_while (going L) (rest s a))) s n d x → Ran (lifetime_rest L b before) s a d x
  named before r = ran_bind (λ (t : List ℕ). ending b before t) (ran_while (going L) m) r

  -- a quote closes the name
  pub closed_in : {d : Cursor} → c ≡ 0x27 → Moved s n d (drop 1 (rest s n)) → RestRan L b s a (record { kind = kinded.Literal (Char true) d; next = d })
  unfolding width
  closed_in {d} h k =
      let p : n.at ≡ a.at + size (take_while (going L) (rest s a)) = while_bytes (going L) m in
      let w : width c ≡ 1 = ap width h in
      let q : d.at ≡ n.at + width c = bump_bytes e (omega arith) k in
      record {
        past = record { from = omega arith; to = omega arith };
        ran = λ before. ran_word (named before (ran_take (give _) _ (is 'single') e (rw h) k (ran_give _ s d)))
            (ap (Literal (Char true)) (omega arith));
      }

  module _ (z : c ≡ 0x27 → ⊥) where
    open_end : (before : ℕ) {x : TokenKind} → Ran (choose b (give (Lifetime true)) (if_at (is '#') (give UnknownPrefixLifetime) (give (Lifetime false)))) s n n x
        → Ran (lifetime_rest L b before) s a n x
    open_end before r = named before (ran_no _ _ (is 'single') e (ne_eqb c 0x27 z) r)

    pub prefixed_in : c ≡ 0x23 → b ≡ false → RestRan L b s a (record { kind = kinded.Plain UnknownPrefixLifetime; next = n })
    prefixed_in h f =
        record {
          past = tt;
          ran = λ before. open_end before (ran_that _ _ f (ran_yes (give UnknownPrefixLifetime) _ (is '#') e (rw h) (ran_give UnknownPrefixLifetime s n)));
        }

    pub numbered_in : b ≡ true → RestRan L b s a (record { kind = kinded.Plain (Lifetime b); next = n })
    numbered_in h =
        record { past = tt; ran = λ before. open_end before (ran_this (give (Lifetime true)) _ h (ran_word (ran_give (Lifetime true) s n) (ap Lifetime h))) }

    pub lifetime_in : (c ≡ 0x23 → ⊥) → RestRan L b s a (record { kind = kinded.Plain (Lifetime b); next = n })
    lifetime_in k =
        ⊎_elim numbered_in
        (λ f. record { past = tt; ran = λ before. open_end before (ran_that _ _ f (ran_no _ (give (Lifetime false)) (is '#') e (ne_eqb c 0x23 k) (ran_word (ran_give (Lifetime false) s n) (ap Lifetime f)))) }) (yes_or_no b)

-- a raw name, from its hash on
pub raw_name_in : (L : Lists) {s : List ℕ} {a c d : Cursor} → Moved s a c (drop 2 (rest s a)) → Moved s c d (left (while (going L)) (rest s c)) → Ran (raw_name L) s a d RawLifetime
raw_name_in L {s} {d = d} m k = ran_then (ran_then (ran_eats 2 m) (ran_while (going L) k)) (ran_give RawLifetime s d)

-- after an r
module _ (L : Lists) {s : List ℕ} {a : Cursor} {c : ℕ} (e : c ≡ get_or (rest s a) 0 0) where
  pub no_hash : {r : Scanned} → (c ≡ 0x23 → ⊥) → RestRan L false s a r → RawNameRan L s a r
  no_hash h q = record { past = q.past; ran = ran_not_both _ (lifetime_rest L false 2) (is '#') (starting L) e refl (rw (ne_eqb c 0x23 h)) (q.ran 2) }

  module _ (h : c ≡ 0x23) {d : ℕ} {t : Bool} (f : d ≡ get_or (rest s a) 1 0) (g : t ≡ starting L d) where
    pub no_start : {r : Scanned} → t ≡ false → RestRan L false s a r → RawNameRan L s a r
    no_start n q = record { past = q.past; ran = ran_not_both _ (lifetime_rest L false 2) (is '#') (starting L) e f (rw (h, ← g, n)) (q.ran 2) }

    pub raw_found : {b : Cursor} → t ≡ true → Ran (raw_name L) s a b RawLifetime → RawNameRan L s a (record { kind = kinded.Plain RawLifetime; next = b })
    raw_found n r = record { past = tt; ran = ran_both (raw_name L) _ (is '#') (starting L) e f (rw (h, ← g, n)) r }

-- A LIFETIME OR NOT, by the first two characters c and d
no_r : (L : Lists) (c : ℕ) → starting L c ≡ false → is 'r' c ≡ false
unfolding id_start letter
no_r L c h = go (eqb c 0x72) refl
  where
    go : (t : Bool) → eqb c 0x72 ≡ t → t ≡ false
    go true e = let q : c ≡ 0x72 = eqb-true c 0x72 e in let z : starting L 0x72 ≡ false = sym (ap (starting L) q) ∙ h in z
    go false e = refl

-- neither a digit nor the start of an identifier
module _ (L : Lists) (cs : List ℕ) (c : ℕ) (e : c ≡ get_or cs 0 0) (char : Eater TokenKind) where
  nothing_named : starting L c ≡ false → digit c ≡ false → lifetime_or L char cs ≡ char cs
  unfolding if_two if_at
  nothing_named h k = rw (← e, h, k, no_r L c h)

  two_quotes : (d : ℕ) → d ≡ get_or cs 1 0 → d ≡ 0x27 → naming L c ≡ true → lifetime_or L char cs ≡ char cs
  unfolding if_two
  two_quotes d f q h = rw (← e, ← f, q, h)

or_none : (a b : Bool) → or a b ≡ false → (a ≡ false) × (b ≡ false)
or_none true b e = (e, let z : true ≡ false = e in taken b z)
  where
    taken : (b : Bool) → true ≡ false → b ≡ false
    taken true z = z
    taken false z = refl
or_none false b e = (refl, e)

-- a quote comes second: no lifetime
pub quote_second : (L : Lists) {s : List ℕ} {a : Cursor} {d : ℕ} → d ≡ get_or (rest s a) 1 0 → d ≡ 0x27 → LifeRan L s a None
quote_second L {s} {a} {d} f q =
    let c = get_or (rest s a) 0 0 in
    other (λ char. ⊎_elim (λ h. two_quotes L (rest s a) c refl char d f q h)
    (λ h. nothing_named L (rest s a) c refl char (or_none (starting L c) (digit c) h).0 (or_none (starting L c) (digit c) h).1) (yes_or_no (naming L c)))

-- neither a digit nor the start of an identifier
pub name_none : (L : Lists) {s : List ℕ} {a : Cursor} {c : ℕ} {t u : Bool} → c ≡ get_or (rest s a) 0 0 → t ≡ digit c → t ≡ false → u ≡ starting L c → u ≡ false → LifeRan L s a None
name_none L {s} {a} {c} e g n f m = other (λ char. nothing_named L (rest s a) c e char (sym f ∙ m) (sym g ∙ n))

not_two : (t : Bool) (d : ℕ) → (d ≡ 0x27 → ⊥) → and t (is 'single' d) ≡ false
not_two true d q = ne_eqb d 0x27 q
not_two false d q = refl

module _ (L : Lists) {s : List ℕ} {a : Cursor} {c d : ℕ} (f : d ≡ get_or (rest s a) 1 0) (q : d ≡ 0x27 → ⊥) (e : c ≡ get_or (rest s a) 0 0) where
  past_two : {x : Cursor} {k : TokenKind} (char : Eater TokenKind)
      → Ran (if_eat (is 'r') (after_quote_r L) (if_at digit (lifetime L true) (if_at (starting L) (lifetime L false) char))) s a x k
      → Ran (lifetime_or L char) s a x k
  past_two char r = ran_not_both char _ (naming L) (is 'single') e f (not_two (naming L c) d q) r

  pub found_r : {b : Cursor} {r : Scanned} → c ≡ 0x72 → Moved s a b (drop 1 (rest s a)) → RawNameRan L s b r → LifeRan L s a (Some r)
  unfolding width
  found_r {b} {r} h m g =
      let w : width c ≡ 1 = ap width h in
      let n : b.at ≡ a.at + 1 = bump_bytes e (omega arith) m ∙ ap (λ (k : ℕ). a.at + k) w in
      found (past_moved r.kind r.next g.past m) (λ char. past_two char (ran_take (after_quote_r L) _ (is 'r') e (rw h) m (ran_word g.ran (shifted r.kind 1 1 a b r.next g.past n))))

  -- a name, from its first character on
  named_on : {b : Cursor} {r : Scanned} (t : Bool) → 1 ≤ length (rest s a) → Moved s a b (drop 1 (rest s a)) → RestRan L t s b r → Ran (lifetime L t) s a r.next (kind_from 1 a r.kind)
  unfolding eat
  named_on {b} {r} t o m g =
      let n : b.at ≡ a.at + size (take 1 (rest s a)) = ran_bytes (eat 1) (ran_eat m) o in
      ran_bind (λ (x : Read (Unit {0})). lifetime_rest L t (1 + size x.text)) (ran_texted (ran_eat m))
      (ran_word (g.ran (1 + size (take 1 (rest s a)))) (shifted r.kind 1 (size (take 1 (rest s a))) a b r.next g.past n))

  module _ (z : c ≡ 0x72 → ⊥) {t : Bool} (g : t ≡ digit c) where
    pub found_digit : {b : Cursor} {r : Scanned} → t ≡ true → Moved s a b (drop 1 (rest s a)) → RestRan L true s b r → LifeRan L s a (Some r)
    found_digit {r = y} h m r =
        let o : 1 ≤ length (rest s a) = there digit refl (rest s a) 0 (ap digit (sym e) ∙ sym g ∙ h) in
        found (past_moved y.kind y.next r.past m) (λ char. past_two char (ran_no _ _ (is 'r') e (ne_eqb c 0x72 z) (ran_yes (lifetime L true) _ digit e (sym g ∙ h) (named_on true o m r))))

    pub found_name : {b : Cursor} {r : Scanned} {u : Bool} → t ≡ false → u ≡ starting L c → u ≡ true → Moved s a b (drop 1 (rest s a)) → RestRan L false s b r → LifeRan L s a (Some r)
    found_name {r = y} h k v m r =
        let o : 1 ≤ length (rest s a) = there (starting L) (unfold id_start letter in refl) (rest s a) 0 (ap (starting L) (sym e) ∙ sym k ∙ v) in
        found (past_moved y.kind y.next r.past m) (λ char. past_two char (ran_no _ _ (is 'r') e (ne_eqb c 0x72 z) (ran_no _ _ digit e (sym g ∙ h) (ran_yes (lifetime L false) char (starting L) e (sym k ∙ v) (named_on false o m r)))))
