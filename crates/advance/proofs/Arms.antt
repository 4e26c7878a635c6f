-- The arms of the decision over the first character, in the facts of the code.
use Prim.Native.Nat.{ℕ, ◌+◌, ◌≤◌, ◌<◌}
use mathlib.Core.Path.{◌≡◌, refl, sym, ap, subst, ◌∙◌}
use mathlib.Core.Bool.{Bool, true, false, true≢false}
use mathlib.Core.List.{List, [], ◌∷◌}
use lib.ListN.{get_or, drop}
use lib.Dec.{eqb}
use native.Mathlib.Omega.{arith}
use borrow.Author.Tests.{ne_eqb, eqb-true}
use mathlib.Core.Logic.{◌⊎◌, inl, inr, ⊎_elim}
use Rattle.basics.specs.Choice.{or}
use Rattle.basics.specs.Tests.{is_in}
use Rattle.basics.proofs.Choices.{yes_or_no, inside_within, under_within, over_within}
use Rattle.classes.proofs.Points.{no_white, start_other, letter_under}
use Rattle.classes.specs.Whitespace.{is_whitespace}
use Rattle.classes.specs.Identifiers.{letter, digit, id_start}
use Rattle.eaters.specs.Eat.{Eater, give, choose}
use Rattle.token.specs.declared.TokenKind.{TokenKind}
use Rattle.token.specs.declared.TokenKind.TheVariants as kind
use Rattle.token.specs.declared.LiteralKind.TheVariants.{CStr, RawCStr, Str}
use Rattle.token.specs.Lists.{Lists, starting, smiling}
use Rattle.token.specs.Literals.{literal}
use Rattle.token.specs.Whitespace.{whitespace}
use Rattle.token.specs.Comments.{slash}
use Rattle.token.specs.Words.{ident_or_unknown_prefix, invalid_ident}
use Rattle.token.specs.Quotes.{double_quoted}
use Rattle.token.specs.Numbers.{number}
use Rattle.token.specs.Lifetimes.{lifetime_or_char}
use Rattle.token.specs.Prefixed.{after_r, after_k, after_b, after_c}
use Rattle.token.specs.Punctuation.{hash_or_quote, pound}
use Rattle.token.specs.Advance.{plain}
use Rattle.cursor.specs.declared.Cursor.{Cursor}
use Rattle.cursor.specs.declared.Kinded.TheVariants.{Plain}
use Rattle.cursor.specs.declared.Lexed.{Lexed}
use Rattle.cursor.specs.declared.Scanned.{Scanned}
use Rattle.cursor.specs.Cursors.{rest}
use Rattle.cursor.specs.Moved.{Moved}
use Rattle.cursor.specs.Ran.{Ran, Begun}
use Rattle.cursor.proofs.Runs.{ran_give, ran_as, ran_this, ran_that, ran_take, ran_no}
use Rattle.literals.specs.declared.Form.TheVariants as form
use Rattle.literals.specs.Forms.{double_kind, raw_kind, LiteralRan}
use Rattle.advance.specs.Arms.{guards}

-- a token that is not a literal, as the code hands it on
abbrev pub handed : TokenKind → Cursor → Scanned
handed k d = record { kind = Plain k; next = d }

begun : (m : Eater TokenKind) {s : List ℕ} {a d : Cursor} {k : TokenKind} → Ran m s a d k → Begun m s a (handed k d)
begun m r = record { past = tt; ran = r }

-- AFTER A HASH
module _ {s : List ℕ} {a : Cursor} {c : ℕ} {t : Bool} (e : c ≡ get_or (rest s a) 0 0) (g : t ≡ hash_or_quote c) where
  pub hash_mark : {b : Cursor} {r : Scanned} → t ≡ true → Moved s a b (drop 1 (rest s a)) → r ≡ handed kind.GuardedStrPrefix b → Begun pound s a r
  hash_mark {b} h m q =
      subst (Begun pound s a) (sym q) (begun pound (ran_take (give kind.GuardedStrPrefix) (give kind.Pound) hash_or_quote e (sym g ∙ h) m (ran_give kind.GuardedStrPrefix s b)))

  pub hash_alone : {r : Scanned} → t ≡ false → r ≡ record { kind = Plain kind.Pound; next = a } → Begun pound s a r
  hash_alone h q = subst (Begun pound s a) (sym q) (begun pound (ran_no _ (give kind.Pound) hash_or_quote e (sym g ∙ h) (ran_give kind.Pound s a)))

-- THE GUARDS
module _ (L : Lists) {s : List ℕ} {a : Cursor} (c : ℕ) {r : Scanned} {t : Bool} (g : t ≡ is_whitespace c) where
  pub white_in : {x : Lexed} → t ≡ true → Ran whitespace s a x.next x.kind → r ≡ handed x.kind x.next → Begun (guards L c) s a r
  white_in h p q = subst (Begun (guards L c) s a) (sym q) (begun _ (ran_this whitespace _ (sym g ∙ h) p))

  module _ (h : t ≡ false) {u : Bool} (k : u ≡ starting L c) where
    pub word_in : {x : Lexed} → u ≡ true → Ran (ident_or_unknown_prefix L) s a x.next x.kind → r ≡ handed x.kind x.next → Begun (guards L c) s a r
    word_in v p q = subst (Begun (guards L c) s a) (sym q) (begun _ (ran_that whitespace _ (sym g ∙ h) (ran_this (ident_or_unknown_prefix L) _ (sym k ∙ v) p)))

    module _ (v : u ≡ false) {w : Bool} (y : w ≡ smiling L c) where
      pub emoji_in : {x : Lexed} → w ≡ true → Ran (invalid_ident L) s a x.next x.kind → r ≡ handed x.kind x.next → Begun (guards L c) s a r
      emoji_in z p q =
          subst (Begun (guards L c) s a) (sym q)
          (begun _ (ran_that whitespace _ (sym g ∙ h) (ran_that (ident_or_unknown_prefix L) _ (sym k ∙ v) (ran_this (invalid_ident L) _ (sym y ∙ z) p))))

      pub unknown_in : w ≡ false → r ≡ handed kind.Unknown a → Begun (guards L c) s a r
      unknown_in z q =
          subst (Begun (guards L c) s a) (sym q)
          (begun _ (ran_that whitespace _ (sym g ∙ h) (ran_that (ident_or_unknown_prefix L) _ (sym k ∙ v) (ran_that (invalid_ident L) (give kind.Unknown) (sym y ∙ z) (ran_give kind.Unknown s a)))))

-- DIGITS are not whitespace and start no identifier
digit_white : {c : ℕ} → 0x30 ≤ c → c ≤ 0x39 → is_whitespace c ≡ false
digit_white {c} p q = sym (no_white c (λ e. omega arith) (λ e. omega arith) (λ e. omega arith) (λ e. omega arith) (λ e. omega arith) (λ e. omega arith) (λ e. omega arith) (λ e. omega arith) (λ e. omega arith) (λ e. omega arith) (λ e. omega arith))

digit_start : (L : Lists) {c : ℕ} → 0x30 ≤ c → c ≤ 0x39 → starting L c ≡ false
digit_start L {c} p q = sym (start_other L.starts c (omega arith) (letter_under c (omega arith)) refl) ∙ ne_eqb c 0x5F (λ e. omega arith)

no_digit : {c : ℕ} → (c < 0x30) ⊎ (0x39 < c) → digit c ≡ false
no_digit {c} (inl p) = under_within 0x30 0x39 c p
no_digit {c} (inr p) = over_within 0x30 0x39 c (omega arith) p

-- A SINGLE POINT: the chain of tests computes at it
arm : (L : Lists) (m : Eater TokenKind) (k : ℕ) → ((cs : List ℕ) → plain L k cs ≡ m cs) → {s : List ℕ} {a : Cursor} {c : ℕ} {r : Scanned} → c ≡ k → Begun m s a r → Begun (plain L c) s a r
arm L m k f {s} {a} e b = record { past = b.past; ran = ran_as (ap (λ (x : ℕ). plain L x (rest s a)) e ∙ f (rest s a)) b.ran }

pub symbol_in : (k : ℕ) (t : TokenKind) → ((L : Lists) (cs : List ℕ) → plain L k cs ≡ give t cs) → (L : Lists) {s : List ℕ} {a : Cursor} {c : ℕ} {r : Scanned} → c ≡ k → r ≡ handed t a → Begun (plain L c) s a r
symbol_in k t f L {s} {a} {c} e q = subst (Begun (plain L c) s a) (sym q) (arm L (give t) k (f L) e (begun _ (ran_give t s a)))

module _ (L : Lists) {s : List ℕ} {a : Cursor} {c : ℕ} {r : Scanned} where
  pub slash_in : {x : Lexed} → c ≡ 0x2F → Ran slash s a x.next x.kind → r ≡ handed x.kind x.next → Begun (plain L c) s a r
  unfolding choose
  slash_in e p q = subst (Begun (plain L c) s a) (sym q) (arm L slash 0x2F (λ cs. refl) e (begun slash p))

  pub r_in : c ≡ 0x72 → Begun (after_r L) s a r → Begun (plain L c) s a r
  unfolding choose is_whitespace
  r_in e b = arm L (after_r L) 0x72 (λ cs. refl) e b

  pub k_in : c ≡ 0x6B → Begun (after_k L) s a r → Begun (plain L c) s a r
  unfolding choose is_whitespace
  k_in e b = arm L (after_k L) 0x6B (λ cs. refl) e b

  pub b_in : c ≡ 0x62 → Begun (after_b L) s a r → Begun (plain L c) s a r
  unfolding choose is_whitespace
  b_in e b = arm L (after_b L) 0x62 (λ cs. refl) e b

  pub c_in : c ≡ 0x63 → Begun (after_c L (double_kind form.C) (raw_kind form.C)) s a r → Begun (plain L c) s a r
  unfolding choose is_whitespace
  c_in e b = arm L (after_c L CStr RawCStr) 0x63 (λ cs. refl) e b

  pub hash_in : c ≡ 0x23 → Begun pound s a r → Begun (plain L c) s a r
  unfolding choose is_whitespace id_start letter
  hash_in e b = arm L pound 0x23 (λ cs. refl) e b

  pub quote_in : c ≡ 0x27 → Begun (lifetime_or_char L) s a r → Begun (plain L c) s a r
  unfolding choose is_whitespace id_start letter
  quote_in e b = arm L (lifetime_or_char L) 0x27 (λ cs. refl) e b

  pub string_in : c ≡ 0x22 → LiteralRan L (double_quoted (double_kind form.Plain)) s a r → Begun (plain L c) s a r
  unfolding choose is_whitespace id_start letter
  string_in e b = arm L (literal L 1 (double_quoted Str)) 0x22 (λ cs. refl) e (record { past = b.past; ran = b.ran 1 })

-- EVERY SINGLE POINT of the decision, and what the code knows of a character that is none of them
abbrev points : List ℕ
points =
    0x2F ∷ 0x72 ∷ 0x6B ∷ 0x62 ∷ 0x63 ∷ 0x23 ∷
    0x3B ∷ 0x2C ∷ 0x2E ∷ 0x28 ∷ 0x29 ∷ 0x7B ∷ 0x7D ∷ 0x5B ∷ 0x5D ∷ 0x40 ∷ 0x7E ∷ 0x3F ∷ 0x3A ∷
    0x24 ∷ 0x3D ∷ 0x21 ∷ 0x3C ∷ 0x3E ∷ 0x2D ∷ 0x26 ∷ 0x7C ∷ 0x2B ∷ 0x2A ∷ 0x5E ∷ 0x25 ∷
    0x27 ∷ 0x22 ∷ []

abbrev apart : Type 0 → List ℕ → ℕ → Type 0
apart T [] c = T
apart T (k ∷ ks) c = apart (T × (c ≡ k → ⊥)) ks c

apart_first : (T : Type 0) (ks : List ℕ) (c : ℕ) → apart T ks c → T
apart_first T [] c d = d
apart_first T (k ∷ ks) c d = (apart_first (T × (c ≡ k → ⊥)) ks c d).0

apart_from : (T : Type 0) (ks : List ℕ) (c k : ℕ) → is_in ks k ≡ true → apart T ks c → c ≡ k → ⊥
apart_from T [] c k h d q = absurd (true≢false (sym h))
apart_from T (j ∷ ks) c k h d q =
    ⊎_elim (λ e. (apart_first (T × (c ≡ j → ⊥)) ks c d).1 (q ∙ eqb-true k j e))
    (λ e. apart_from (T × (c ≡ j → ⊥)) ks c k (sym (ap (λ (t : Bool). or t (is_in ks k)) e) ∙ h) d q) (yes_or_no (eqb k j))

abbrev pub Apart : ℕ → Type 0
Apart c = apart (Unit {0}) points c

away : {c : ℕ} → Apart c → (k : ℕ) → is_in points k ≡ true → c ≡ k → ⊥
away {c} d k h = apart_from (Unit {0}) points c k h d

above : {c : ℕ} → Apart c → (k : ℕ) → is_in points k ≡ true → k ≤ c → k + 1 ≤ c
above d k h l = omega (arith, away d k h)

-- a digit: the points below the digits are tested with them
least : {c : ℕ} → Apart c → 0x21 ≤ c → 0x30 ≤ c
least d p = above d 0x2F refl (above d 0x2E refl (above d 0x2D refl (above d 0x2C refl (above d 0x2B refl (above d 0x2A refl (above d 0x29 refl (above d 0x28 refl (above d 0x27 refl (above d 0x26 refl (above d 0x25 refl (above d 0x24 refl (above d 0x23 refl (above d 0x22 refl (above d 0x21 refl p))))))))))))))

module _ (L : Lists) {c : ℕ} (d : Apart c) where
  digit_arm : 0x30 ≤ c → c ≤ 0x39 → (cs : List ℕ) → plain L c cs ≡ literal L 1 (number L c) cs
  unfolding choose
  digit_arm p q cs =
      rw (ne_eqb c 0x2F (λ e. omega arith), digit_white p q, ne_eqb c 0x72 (λ e. omega arith), ne_eqb c 0x6B (λ e. omega arith), ne_eqb c 0x62 (λ e. omega arith), ne_eqb c 0x63 (λ e. omega arith), digit_start L p q, inside_within 0x30 0x39 c p q)

  pub digit_in : {s : List ℕ} {a : Cursor} {r : Scanned} → 0x21 ≤ c → c < 0x3A → LiteralRan L (number L c) s a r → Begun (plain L c) s a r
  digit_in {s} {a} p q b = record { past = b.past; ran = ran_as (digit_arm (least d p) (omega arith) (rest s a)) (b.ran 1) }

  -- no digit: the guards are left
  other_arm : digit c ≡ false → (cs : List ℕ) → plain L c cs ≡ guards L c cs
  unfolding choose
  other_arm h cs =
      rw (ne_eqb c 0x2F (away d 0x2F refl), ne_eqb c 0x72 (away d 0x72 refl), ne_eqb c 0x6B (away d 0x6B refl), ne_eqb c 0x62 (away d 0x62 refl), ne_eqb c 0x63 (away d 0x63 refl), ne_eqb c 0x23 (away d 0x23 refl), ne_eqb c 0x3B (away d 0x3B refl), ne_eqb c 0x2C (away d 0x2C refl), ne_eqb c 0x2E (away d 0x2E refl), ne_eqb c 0x28 (away d 0x28 refl), ne_eqb c 0x29 (away d 0x29 refl), ne_eqb c 0x7B (away d 0x7B refl), ne_eqb c 0x7D (away d 0x7D refl), ne_eqb c 0x5B (away d 0x5B refl), ne_eqb c 0x5D (away d 0x5D refl), ne_eqb c 0x40 (away d 0x40 refl), ne_eqb c 0x7E (away d 0x7E refl), ne_eqb c 0x3F (away d 0x3F refl), ne_eqb c 0x3A (away d 0x3A refl), ne_eqb c 0x24 (away d 0x24 refl), ne_eqb c 0x3D (away d 0x3D refl), ne_eqb c 0x21 (away d 0x21 refl), ne_eqb c 0x3C (away d 0x3C refl), ne_eqb c 0x3E (away d 0x3E refl), ne_eqb c 0x2D (away d 0x2D refl), ne_eqb c 0x26 (away d 0x26 refl), ne_eqb c 0x7C (away d 0x7C refl), ne_eqb c 0x2B (away d 0x2B refl), ne_eqb c 0x2A (away d 0x2A refl), ne_eqb c 0x5E (away d 0x5E refl), ne_eqb c 0x25 (away d 0x25 refl), ne_eqb c 0x27 (away d 0x27 refl), ne_eqb c 0x22 (away d 0x22 refl), h)

  pub other_in : {s : List ℕ} {a : Cursor} {r : Scanned} → (c < 0x21) ⊎ (0x3A ≤ c) → Begun (guards L c) s a r → Begun (plain L c) s a r
  other_in {s} {a} h b = record { past = b.past; ran = ran_as (other_arm (no_digit {c = c} (⊎_elim (λ p. inl (omega arith)) (λ p. inr (omega arith)) h)) (rest s a)) b.ran }
