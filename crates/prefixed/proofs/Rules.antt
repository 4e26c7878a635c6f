-- What a quote and the letters r, b and c begin, in the facts of the code.
use Prim.Native.Nat.{ℕ, ◌+◌, ◌<◌}
use mathlib.Core.Path.{◌≡◌, sym, ap, ◌∙◌}
use mathlib.Core.Bool.{Bool, true, false}
use mathlib.Core.List.{List}
use Rattle.std.specs.Prelude.{Some, None}
use lib.ListN.{get_or, drop}
use native.Mathlib.Omega.{arith}
use borrow.Author.Tests.{ne_eqb, eqb-true}
use Rattle.basics.specs.Choice.{and}
use Rattle.basics.proofs.Choices.{and_1}
use Rattle.text.specs.Chars.{width}
use Rattle.eaters.specs.Eat.{Eater, give, eat, ◌>>◌}
use Rattle.eaters.specs.Look.{if_two}
use Rattle.token.specs.declared.TokenKind.{TokenKind}
use Rattle.token.specs.declared.TokenKind.TheVariants.{RawIdent, ForcedKeywordIdent}
use Rattle.token.specs.Lists.{Lists, starting}
use Rattle.token.specs.Names.{is, '#', 'double', 'single', 'r'}
use Rattle.token.specs.Literals.{identifier, Body, literal}
use Rattle.token.specs.Words.{ident_or_unknown_prefix}
use Rattle.token.specs.Quotes.{double_quoted, single_quoted}
use Rattle.token.specs.RawStrings.{raw_string}
use Rattle.token.specs.Lifetimes.{character, lifetime_or_char}
use Rattle.token.specs.Punctuation.{hash_or_quote}
use Rattle.token.specs.Prefixed.{after_r, after_k, after_c, after_b}
use Rattle.cursor.specs.declared.Cursor.{Cursor}
use Rattle.cursor.specs.declared.Kinded.TheVariants as kinded
use Rattle.cursor.specs.declared.Scanned.{Scanned}
use Rattle.cursor.specs.Cursors.{rest}
use Rattle.cursor.specs.Moved.{Moved}
use Rattle.cursor.specs.Ran.{Ran, kind_from, Past, Begun}
use Rattle.cursor.proofs.Runs.{ran_word, ran_give, ran_then, ran_eat, ran_yes, ran_no, ran_take, ran_both, ran_not_both, ran_as}
use Rattle.cursor.proofs.Bytes.{bump_bytes, shifted, past_moved}
use Rattle.words.specs.Lives.{LifeRan, found, other}
use Rattle.literals.specs.declared.Form.{Form}
use Rattle.literals.specs.declared.Form.TheVariants.{Plain, Byte}
use Rattle.literals.specs.Forms.{single_kind, double_kind, raw_kind, LiteralRan}

-- A QUOTE
pub life_in : (L : Lists) {s : List ℕ} {a : Cursor} {r : Scanned} → LifeRan L s a (Some r) → Begun (lifetime_or_char L) s a r
life_in L (found p q) = record { past = p; ran = q (character L) }

pub char_in : (L : Lists) {s : List ℕ} {a : Cursor} {r : Scanned} → LifeRan L s a None → LiteralRan L (single_quoted (single_kind false)) s a r → Begun (lifetime_or_char L) s a r
char_in L (other q) r = record { past = r.past; ran = ran_as (q (character L)) (r.ran 1) }

-- A LITERAL AFTER ONE MORE CHARACTER of one byte
module _ (L : Lists) (body : Eater Body) {s : List ℕ} {a b : Cursor} {c : ℕ} {r : Scanned} (e : c ≡ get_or (rest s a) 0 0) (m : Moved s a b (drop 1 (rest s a))) (q : LiteralRan L body s b r) where
  on : 0 < c → width c ≡ 1 → Ran (literal L 2 body) s b r.next (kind_from 1 a r.kind)
  on p w = ran_word (q.ran 2) (shifted r.kind 1 1 a b r.next q.past (bump_bytes e p m ∙ ap (λ (k : ℕ). a.at + k) w))

  on_past : Past a r.next r.kind
  on_past = past_moved r.kind r.next q.past m

-- AFTER r AND k: a hash and the start of an identifier, which k names; or not
module _ (L : Lists) {s : List ℕ} {a : Cursor} {c d : ℕ} {t : Bool} (e : c ≡ get_or (rest s a) 0 0) (f : d ≡ get_or (rest s a) 1 0) (g : t ≡ and (is '#' c) (starting L d)) where
  named : (k : TokenKind) (that : Eater TokenKind) {b x : Cursor} → t ≡ true → Moved s a b (drop 1 (rest s a)) → Ran (identifier L) s b x tt → Begun (if_two (is '#') (starting L) (eat 1 >> identifier L >> give k) that) s a (record { kind = kinded.Plain k; next = x })
  named k that {x = x} h m r = record { past = tt; ran = ran_both (eat 1 >> identifier L >> give k) that (is '#') (starting L) e f (sym g ∙ h) (ran_then (ran_then (ran_eat m) r) (ran_give k s x)) }

  pub raw_name_in : {b x : Cursor} → t ≡ true → Moved s a b (drop 1 (rest s a)) → Ran (identifier L) s b x tt → Begun (after_r L) s a (record { kind = kinded.Plain RawIdent; next = x })
  raw_name_in h m r = named RawIdent _ h m r

  pub forced_in : {b x : Cursor} → t ≡ true → Moved s a b (drop 1 (rest s a)) → Ran (identifier L) s b x tt → Begun (after_k L) s a (record { kind = kinded.Plain ForcedKeywordIdent; next = x })
  forced_in h m r = named ForcedKeywordIdent _ h m r

  module _ (h : t ≡ false) {r : Scanned} where
    unnamed : (this that : Eater TokenKind) → Begun that s a r → Begun (if_two (is '#') (starting L) this that) s a r
    unnamed this that q = record { past = q.past; ran = ran_not_both this that (is '#') (starting L) e f (sym g ∙ h) q.ran }

    pub unforced_in : Begun (ident_or_unknown_prefix L) s a r → Begun (after_k L) s a r
    unforced_in q = unnamed _ (ident_or_unknown_prefix L) q

    module _ {u : Bool} (k : u ≡ hash_or_quote c) where
      pub raw_in : u ≡ true → LiteralRan L (raw_string (raw_kind Plain)) s a r → Begun (after_r L) s a r
      raw_in v q = unnamed _ _ (record { past = q.past; ran = ran_yes (literal L 1 (raw_string (raw_kind Plain))) _ hash_or_quote e (sym k ∙ v) (q.ran 1) })

      pub no_raw_in : u ≡ false → Begun (ident_or_unknown_prefix L) s a r → Begun (after_r L) s a r
      no_raw_in v q = unnamed _ _ (record { past = q.past; ran = ran_no _ (ident_or_unknown_prefix L) hash_or_quote e (sym k ∙ v) q.ran })

-- AFTER c
module _ (L : Lists) (o : Form) {s : List ℕ} {a : Cursor} {c : ℕ} {r : Scanned} (e : c ≡ get_or (rest s a) 0 0) where
  pub string_in : {b : Cursor} → c ≡ 0x22 → Moved s a b (drop 1 (rest s a)) → LiteralRan L (double_quoted (double_kind o)) s b r → Begun (after_c L (double_kind o) (raw_kind o)) s a r
  unfolding width
  string_in h m q =
      let w : width c ≡ 1 = ap width h in
      record { past = on_past _ _ e m q; ran = ran_take (literal L 2 (double_quoted (double_kind o))) _ (is 'double') e (rw h) m (on _ _ e m q (omega arith) w) }

  module _ (z : c ≡ 0x22 → ⊥) {d : ℕ} {t : Bool} (f : d ≡ get_or (rest s a) 1 0) (g : t ≡ and (is 'r' c) (hash_or_quote d)) where
    pub raw_string_in : {b : Cursor} → t ≡ true → Moved s a b (drop 1 (rest s a)) → LiteralRan L (raw_string (raw_kind o)) s b r → Begun (after_c L (double_kind o) (raw_kind o)) s a r
    unfolding width
    raw_string_in h m q =
        let v : c ≡ 0x72 = eqb-true c 0x72 (and_1 (is 'r' c) (hash_or_quote d) (sym g ∙ h)) in
        let w : width c ≡ 1 = ap width v in
        record { past = on_past _ _ e m q; ran = ran_no _ _ (is 'double') e (ne_eqb c 0x22 z) (ran_both (eat 1 >> literal L 2 (raw_string (raw_kind o))) _ (is 'r') hash_or_quote e f (sym g ∙ h) (ran_then (ran_eat m) (on _ _ e m q (omega arith) w))) }

    pub no_string_in : t ≡ false → Begun (ident_or_unknown_prefix L) s a r → Begun (after_c L (double_kind o) (raw_kind o)) s a r
    no_string_in h q = record { past = q.past; ran = ran_no _ _ (is 'double') e (ne_eqb c 0x22 z) (ran_not_both _ (ident_or_unknown_prefix L) (is 'r') hash_or_quote e f (sym g ∙ h) q.ran) }

-- AFTER b
module _ (L : Lists) {s : List ℕ} {a : Cursor} {c : ℕ} {r : Scanned} (e : c ≡ get_or (rest s a) 0 0) where
  pub byte_in : {b : Cursor} → c ≡ 0x27 → Moved s a b (drop 1 (rest s a)) → LiteralRan L (single_quoted (single_kind true)) s b r → Begun (after_b L) s a r
  unfolding width
  byte_in h m q =
      let w : width c ≡ 1 = ap width h in
      record { past = on_past _ _ e m q; ran = ran_take (literal L 2 (single_quoted (single_kind true))) _ (is 'single') e (rw h) m (on _ _ e m q (omega arith) w) }

  pub no_byte_in : (c ≡ 0x27 → ⊥) → Begun (after_c L (double_kind Byte) (raw_kind Byte)) s a r → Begun (after_b L) s a r
  no_byte_in z q = record { past = q.past; ran = ran_no _ (after_c L (double_kind Byte) (raw_kind Byte)) (is 'single') e (ne_eqb c 0x27 z) q.ran }
