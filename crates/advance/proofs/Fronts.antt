-- The decision with frontmatter on, in the facts of the code.
use Prim.Native.Nat.{ℕ}
use mathlib.Core.Path.{◌≡◌, refl, sym, ap, subst, ◌∙◌}
use mathlib.Core.Bool.{Bool, true, false}
use mathlib.Core.Logic.{⊎_elim}
use mathlib.Core.List.{List, ◌∷◌}
use lib.ListN.{get_or, drop}
use borrow.Author.Tests.{ne_eqb}
use Rattle.basics.specs.Choice.{and}
use Rattle.basics.proofs.Choices.{yes_or_no, and_1, and_2}
use Rattle.classes.specs.Whitespace.{is_whitespace}
use Rattle.eaters.specs.Eat.{Eater, give, eat, take_while, ◌>>◌, choose}
use Rattle.eaters.specs.Look.{begins, if_begins}
use Rattle.token.specs.declared.TokenKind.{TokenKind}
use Rattle.token.specs.declared.TokenKind.TheVariants as kind
use Rattle.token.specs.Names.{is, 'newline', '-'}
use Rattle.token.specs.Lists.{Lists}
use Rattle.token.specs.Frontmatter.{dashes, frontmatter}
use Rattle.token.specs.Advance.{plain, last, leading, fronted, decided}
use Rattle.cursor.specs.declared.Cursor.{Cursor}
use Rattle.std.specs.Prelude.{Option, None, Some}
use Rattle.cursor.specs.declared.Lexed.{Lexed}
use Rattle.cursor.specs.declared.Scanned.{Scanned}
use Rattle.cursor.specs.Cursors.{rest, Seen}
use Rattle.cursor.specs.Moved.{Moved}
use Rattle.cursor.specs.Ran.{Ran, Begun}
use Rattle.cursor.proofs.Moves.{char_at, end_at}
use Rattle.cursor.proofs.Loops.{Eaten, eaten_none, eaten_on, eaten_off, eaten_over, ran_while}
use Rattle.cursor.proofs.Runs.{ran_give, ran_bind, ran_then, ran_eat, ran_this, ran_that, ran_both, ran_not_both}
use Rattle.advance.specs.declared.Blanks.{Blanks}
use Rattle.advance.specs.Arms.{Led, fence}
use Rattle.advance.proofs.Arms.{handed}

-- THE WHITESPACE BEFORE IT, and its last character
pub record Leading (c : ℕ) (s : List ℕ) (a b : Cursor) (l : ℕ) : Type 0 where
  pub eaten : Eaten is_whitespace s a b
  pub word : last l (take_while is_whitespace (rest s b)) ≡ last c (take_while is_whitespace (rest s a))

last_on : (l x : ℕ) (cs : List ℕ) → is_whitespace x ≡ true → last l (take_while is_whitespace (x ∷ cs)) ≡ last x (take_while is_whitespace cs)
last_on l x cs h = rw h

last_off : (l x : ℕ) (cs : List ℕ) → is_whitespace x ≡ false → last l (take_while is_whitespace (x ∷ cs)) ≡ l
last_off l x cs h = rw h

pub leading_none : (c : ℕ) (s : List ℕ) (a : Cursor) → Leading c s a a c
leading_none c s a = record { eaten = eaten_none is_whitespace s a; word = refl }

module _ (c : ℕ) {s : List ℕ} {a b : Cursor} {l : ℕ} {r : Option (ℕ × Cursor)} (i : Leading c s a b l) (h : Seen s b r) where
  module _ {x : ℕ} {d : Cursor} (e : r ≡ Some (x, d)) {t : Bool} (q : t ≡ is_whitespace x) where
    here : last l (take_while is_whitespace (rest s b)) ≡ last l (take_while is_whitespace (x ∷ rest s d))
    here = ap (λ (cs : List ℕ). last l (take_while is_whitespace cs)) (char_at e h).chars

    pub leading_on : t ≡ true → Leading c s a d x
    leading_on y = record { eaten = eaten_on is_whitespace i.eaten h e q y; word = sym (last_on l x (rest s d) (sym q ∙ y)) ∙ sym here ∙ i.word }

    pub led_off : t ≡ false → Led c s a (record { next = b; last = l })
    led_off y = record { moved = eaten_off is_whitespace i.eaten h e q y; last = sym (last_off l x (rest s d) (sym q ∙ y)) ∙ sym here ∙ i.word }

  pub led_over : r ≡ None → Led c s a (record { next = b; last = l })
  led_over e =
      record { moved = eaten_over is_whitespace i.eaten h e; last = sym (ap (λ (cs : List ℕ). last l (take_while is_whitespace cs)) (end_at e h)) ∙ i.word }

-- A FENCE AFTER IT
module _ {A : Type 0} (this that : Eater A) (l : List ℕ) {s : List ℕ} {a b : Cursor} {x : A} {t : Bool} (e : t ≡ begins l (rest s a)) where
  ran_begins : t ≡ true → Ran this s a b x → Ran (if_begins l this that) s a b x
  unfolding if_begins
  ran_begins h r = record { moved = rw (← e, h) r.moved; said = rw (← e, h) r.said }

  ran_begins_not : t ≡ false → Ran that s a b x → Ran (if_begins l this that) s a b x
  unfolding if_begins
  ran_begins_not h r = record { moved = rw (← e, h) r.moved; said = rw (← e, h) r.said }

-- what follows the whitespace
abbrev after : (L : Lists) (c : ℕ) (blanks : List ℕ) → Eater TokenKind
after L c blanks =
    choose (is 'newline' (last c blanks)) (give kind.Whitespace) (if_begins (dashes 3) (eat 1 >> frontmatter L true) (give kind.Whitespace))

module _ (L : Lists) (c : ℕ) {s : List ℕ} {a : Cursor} {w : Blanks} (g : Led c s a w) where
  module _ {d : Cursor} {k : TokenKind} where
    on : Ran (after L c (take_while is_whitespace (rest s a))) s w.next d k → Ran (leading L c) s a d k
    on r = ran_bind (after L c) (ran_while is_whitespace g.moved) r

    ended : Ran (if_begins (dashes 3) (eat 1 >> frontmatter L true) (give kind.Whitespace)) s w.next d k → (w.last ≡ 0x0A → ⊥) → Ran (leading L c) s a d k
    ended r n = on (ran_that (give kind.Whitespace) _ (ap (is 'newline') (sym g.last) ∙ ne_eqb w.last 0x0A n) r)

  pub newline_in : w.last ≡ 0x0A → Ran (leading L c) s a w.next kind.Whitespace
  newline_in e = on (ran_this (give kind.Whitespace) _ (ap (is 'newline') (sym g.last ∙ e)) (ran_give kind.Whitespace s w.next))

  module _ (n : w.last ≡ 0x0A → ⊥) {t : Bool} (h : t ≡ begins (dashes 3) (rest s w.next)) where
    pub fence_in : {b : Cursor} {x : Lexed} → t ≡ true → Moved s w.next b (drop 1 (rest s w.next)) → Ran (frontmatter L true) s b x.next x.kind → Ran (leading L c) s a x.next x.kind
    fence_in y m r = ended (ran_begins _ _ (dashes 3) h y (ran_then (ran_eat m) r)) n

    pub blanks_in : t ≡ false → Ran (leading L c) s a w.next kind.Whitespace
    blanks_in y = ended (ran_begins_not _ (give kind.Whitespace) (dashes 3) h y (ran_give kind.Whitespace s w.next)) n

-- THE DECISION
module _ (L : Lists) (c : ℕ) {s : List ℕ} {a : Cursor} {r : Scanned} where
  whole : {m : Eater TokenKind} {x : Lexed} → Ran m s a x.next x.kind → r ≡ handed x.kind x.next → Begun m s a r
  whole {m} p q = subst (Begun m s a) (sym q) (record { past = tt; ran = p })

  pub on_in : {t : Bool} → t ≡ true → Begun (fronted L c) s a r → Begun (decided L t c) s a r
  on_in h b = record { past = b.past; ran = ran_this (fronted L c) (plain L c) h b.ran }

  pub off_in : {t : Bool} → t ≡ false → Begun (plain L c) s a r → Begun (decided L t c) s a r
  off_in h b = record { past = b.past; ran = ran_that (fronted L c) (plain L c) h b.ran }

  module _ {t : Bool} (g : t ≡ is_whitespace c) where
    pub leading_in : {x : Lexed} → t ≡ true → Ran (leading L c) s a x.next x.kind → r ≡ handed x.kind x.next → Begun (fronted L c) s a r
    leading_in h p q = whole (ran_this (leading L c) _ (sym g ∙ h) p) q

    module _ (h : t ≡ false) {u : Bool} (k : u ≡ fence c (rest s a)) where
      pub dashes_in : {x : Lexed} → u ≡ true → Ran (frontmatter L false) s a x.next x.kind → r ≡ handed x.kind x.next → Begun (fronted L c) s a r
      dashes_in v p q =
          whole (ran_that (leading L c) _ (sym g ∙ h)
          (ran_this _ (plain L c) (and_1 (is '-' c) _ (sym k ∙ v))
          (ran_both (frontmatter L false) (plain L c) (is '-') (is '-') refl refl (and_2 (is '-' c) _ (sym k ∙ v)) p))) q

      pub plain_in : u ≡ false → Begun (plain L c) s a r → Begun (fronted L c) s a r
      plain_in v b =
          record {
            past = b.past;
            ran =
                ran_that (leading L c) _ (sym g ∙ h)
                (⊎_elim (λ e. ran_this _ (plain L c) e (ran_not_both (frontmatter L false) (plain L c) (is '-') (is '-') refl refl (second e) b.ran))
                (λ e. ran_that _ (plain L c) e b.ran) (yes_or_no (is '-' c)));
          }
        where
          second : is '-' c ≡ true → and (is '-' (get_or (rest s a) 0 0)) (is '-' (get_or (rest s a) 1 0)) ≡ false
          second e = sym (ap (λ (t : Bool). and t (and (is '-' (get_or (rest s a) 0 0)) (is '-' (get_or (rest s a) 1 0)))) e) ∙ sym k ∙ v
