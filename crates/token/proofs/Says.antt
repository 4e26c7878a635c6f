-- What a scan says has a property: a law for each word of the vocabulary and for each rule of the book, in the end for advance.
-- The property is a test; the premises of a rule are that it holds of the kinds that the rule can say.
use Rattle.std.specs.Prelude.{Option}
use Prim.Native.Nat.{ℕ, zero, suc}
use mathlib.Core.Path.{◌≡◌, sym, ap, subst, ◌∙◌}
use mathlib.Core.Bool.{Bool, true, false}
use mathlib.Core.List.{List, [], ◌∷◌}
use lib.Dec.{eqb}
use lib.ListN.{get_or, drop}
use borrow.Author.Tests.{eqb-true}
use Rattle.basics.specs.Choice.{and, or}
use Rattle.basics.proofs.Choices.{and_1, and_2, by_pick}
use Rattle.classes.specs.Whitespace.{is_whitespace}
use Rattle.eaters.specs.Eat.{Got, Eater, give, eat, ◌>>=◌, ◌>>◌, choose}
use Rattle.eaters.specs.Look.{if_at, if_two, if_eat, begins, if_begins}
use Rattle.token.specs.declared.DocStyle.{DocStyle}
use Rattle.token.specs.declared.LiteralKind.{LiteralKind}
use Rattle.token.specs.declared.LiteralKind.TheVariants.{CStr, RawCStr, ByteStr, RawByteStr}
use Rattle.token.specs.declared.TokenKind.{TokenKind}
use Rattle.token.specs.declared.TokenKind.TheVariants as kind
use Rattle.token.specs.Names.{is, '/', '-'}
use Rattle.token.specs.Lists.{Lists}
use Rattle.token.specs.Literals.{Body, literal}
use Rattle.token.specs.Whitespace.{whitespace}
use Rattle.token.specs.Comments.{slash}
use Rattle.token.specs.Words.{ident_or_unknown_prefix, invalid_ident}
use Rattle.token.specs.Lifetimes.{lifetime_rest, lifetime, lifetime_or_char}
use Rattle.token.specs.Prefixed.{after_r, after_k, after_b, after_c}
use Rattle.token.specs.Punctuation.{Symbol, symbols, symbol_kind}
use Rattle.token.specs.Frontmatter.{frontmatter}
use Rattle.token.specs.Advance.{plain, leading, fronted, Told, advance}

pub record Says {A : Type 0} (p : A → Bool) (m : Eater A) : Type 0 where
  pub says : (cs : List ℕ) → p (m cs).said ≡ true

-- THE WORDS
module _ {A : Type 0} {p : A → Bool} where
  pub says_give : (x : A) → p x ≡ true → Says p (give x)
  unfolding give
  says_give x e = record { says = λ cs. e }

  pub says_bind : {B : Type 0} (m : Eater B) {f : B → Eater A} → ((x : B) → Says p (f x)) → Says p (m >>= f)
  unfolding ◌>>=◌
  says_bind m h = record { says = λ cs. (h (m cs).said).says (drop (m cs).took cs) }

  pub says_then : {B : Type 0} (m : Eater B) {k : Eater A} → Says p k → Says p (m >> k)
  says_then {B} m h = says_bind m (λ (x : B). h)

  module _ {x y : Eater A} where
    -- each where its test says so
    pub says_where : (b : Bool) → (b ≡ true → Says p x) → (b ≡ false → Says p y) → Says p (choose b x y)
    unfolding choose
    says_where b g h = record { says = λ cs. by_pick (λ (r : Got A). p r.said ≡ true) b (x cs) (y cs) (λ t. (g t).says cs) (λ t. (h t).says cs) }

    pub says_choose : (b : Bool) → Says p x → Says p y → Says p (choose b x y)
    says_choose b g h = says_where b (λ t. g) (λ t. h)

    pub says_if_at : (t : ℕ → Bool) → Says p x → Says p y → Says p (if_at t x y)
    unfolding if_at choose
    says_if_at t g h = record { says = λ cs. (says_choose (t (get_or cs 0 0)) g h).says cs }

    pub says_if_two : (t u : ℕ → Bool) → Says p x → Says p y → Says p (if_two t u x y)
    unfolding if_two choose
    says_if_two t u g h = record { says = λ cs. (says_choose (and (t (get_or cs 0 0)) (u (get_or cs 1 0))) g h).says cs }

    pub says_if_begins : (l : List ℕ) → Says p x → Says p y → Says p (if_begins l x y)
    unfolding if_begins choose
    says_if_begins l g h = record { says = λ cs. (says_choose (begins l cs) g h).says cs }

  pub says_if_eat : {x y : Eater A} (t : ℕ → Bool) → Says p x → Says p y → Says p (if_eat t x y)
  says_if_eat t g h = says_if_at t (says_then (eat 1) g) h

-- THE RULES. The bare kinds that neither a slash, nor whitespace, nor a symbol begins, and a hash alone
abbrev pub words : List TokenKind
words =
    kind.Unknown ∷ kind.Ident ∷ kind.InvalidIdent ∷ kind.RawIdent ∷ kind.ForcedKeywordIdent ∷ kind.UnknownPrefix ∷ kind.UnknownPrefixLifetime ∷ kind.RawLifetime ∷ kind.GuardedStrPrefix ∷ kind.Pound ∷ []

abbrev pub every : (TokenKind → Bool) → List TokenKind → Bool
every p [] = true
every p (k ∷ l) = and (p k) (every p l)

-- the test holds of every kind that neither a slash, nor whitespace, nor a symbol, nor a fence begins
pub record Worded (p : TokenKind → Bool) : Type 0 where
  pub bare : every p words ≡ true
  pub literal : (l : LiteralKind) (n : ℕ) → p (kind.Literal l n) ≡ true
  pub life : (b : Bool) → p (kind.Lifetime b) ≡ true

every_at : (p : TokenKind → Bool) (l : List TokenKind) → every p l ≡ true → (n : ℕ) {k : TokenKind} → p k ≡ true → p (get_or l n k) ≡ true
every_at p [] h n e = e
every_at p (j ∷ l) h zero e = and_1 _ _ h
every_at p (j ∷ l) h (suc n) e = every_at p l (and_2 (p j) _ h) n e

-- word n of them
word : {p : TokenKind → Bool} → Worded p → (n : ℕ) → p (get_or words n kind.Unknown) ≡ true
word {p} w n = every_at p words w.bare n {k = kind.Unknown} (and_1 _ _ w.bare)

module _ {p : TokenKind → Bool} where
  pub says_slash : ((d : Option DocStyle) → p (kind.LineComment d) ≡ true) → ((d : Option DocStyle) (t : Bool) → p (kind.BlockComment d t) ≡ true) → p kind.Slash ≡ true → Says p slash
  says_slash l b s =
      says_if_eat _ (says_bind _ (λ t. says_give _ (l _)))
      (says_if_eat _ (says_bind _ (λ r. says_give _ (b _ _))) (says_give _ s))

  pub says_whitespace : p kind.Whitespace ≡ true → Says p whitespace
  says_whitespace e = says_then _ (says_give _ e)

  pub says_literal : (L : Lists) (before : ℕ) (body : Eater Body) → ((l : LiteralKind) (n : ℕ) → p (kind.Literal l n) ≡ true) → Says p (literal L before body)
  says_literal L before body e = says_bind _ (λ r. says_then _ (says_give _ (e _ _)))

  pub says_invalid : (L : Lists) → p kind.InvalidIdent ≡ true → Says p (invalid_ident L)
  says_invalid L e = says_then _ (says_give _ e)

  pub says_frontmatter : (L : Lists) (before : Bool) → ((bad : Bool) → p (kind.Frontmatter before bad) ≡ true) → Says p (frontmatter L before)
  says_frontmatter L before e =
      says_bind _ (λ more. says_then _ (says_then _ (says_then _ (says_if_at _ (says_then _ (says_give _ (e false))) (says_then _ (says_give _ (e true)))))))

-- a symbol: tried over the table, but for characters of t
abbrev pub symbols_say : (p : TokenKind → Bool) (t : ℕ → Bool) → List Symbol → Bool
symbols_say p t [] = true
symbols_say p t (s ∷ l) = and (or (t s.code) (p s.kind)) (symbols_say p t l)

pub says_symbol : (p : TokenKind → Bool) (t : ℕ → Bool) (l : List Symbol) → symbols_say p t l ≡ true → p kind.Unknown ≡ true → (c : ℕ) → t c ≡ false
    → p (symbol_kind l kind.Unknown c) ≡ true
says_symbol p t [] h u c n = u
says_symbol p t (s ∷ l) h u c n =
    by_pick (λ (k : TokenKind). p k ≡ true) (eqb c s.code) s.kind (symbol_kind l kind.Unknown c)
    (λ e. subst (λ (b : Bool). or b (p s.kind) ≡ true) (ap t (sym (eqb-true c s.code e)) ∙ n) (and_1 _ _ h))
    (λ e. says_symbol p t l (and_2 (or (t s.code) (p s.kind)) _ h) u c n)

module _ {p : TokenKind → Bool} (w : Worded p) (L : Lists) where
  pub says_word : Says p (ident_or_unknown_prefix L)
  says_word = says_then _ (says_if_at _ (says_give _ (word w 5)) (says_if_at _ (says_invalid L (word w 2)) (says_give _ (word w 1))))

  says_lit : (before : ℕ) (body : Eater Body) → Says p (literal L before body)
  says_lit before body = says_literal L before body w.literal

  pub says_r : Says p (after_r L)
  says_r = says_if_two _ _ (says_then _ (says_give _ (word w 3))) (says_if_at _ (says_lit 1 _) says_word)

  pub says_k : Says p (after_k L)
  says_k = says_if_two _ _ (says_then _ (says_give _ (word w 4))) says_word

  pub says_c : (mk : Bool → LiteralKind) (raw : Option ℕ → LiteralKind) → Says p (after_c L mk raw)
  says_c mk raw = says_if_eat _ (says_lit 2 _) (says_if_two _ _ (says_then _ (says_lit 2 _)) says_word)

  pub says_b : Says p (after_b L)
  says_b = says_if_eat _ (says_lit 2 _) (says_c ByteStr RawByteStr)

  pub says_rest : (numbered : Bool) (before : ℕ) → Says p (lifetime_rest L numbered before)
  says_rest numbered before =
      says_bind _ (λ t. says_if_eat _ (says_give _ (w.literal _ _))
      (says_choose numbered (says_give _ (w.life true)) (says_if_at _ (says_give _ (word w 6)) (says_give _ (w.life false)))))

  pub says_lifetime : (numbered : Bool) → Says p (lifetime L numbered)
  says_lifetime numbered = says_bind _ (λ r. says_rest numbered _)

  pub says_quote : Says p (lifetime_or_char L)
  says_quote =
      says_if_two _ _ (says_lit 1 _)
      (says_if_eat _ (says_if_two _ _ (says_then _ (says_give _ (word w 7))) (says_rest false 2))
      (says_if_at _ (says_lifetime true)
      (says_if_at _ (says_lifetime false)
      (says_lit 1 _))))

  -- after the first character c, frontmatter off
  pub says_plain : (c : ℕ) → (is '/' c ≡ true → Says p slash) → (is_whitespace c ≡ true → Says p whitespace) → p (symbol_kind symbols kind.Unknown c) ≡ true → Says p (plain L c)
  says_plain c s v y =
      says_where _ s (λ n.
      says_where _ v (λ m.
      says_choose _ says_r
      (says_choose _ says_k
      (says_choose _ says_b
      (says_choose _ (says_c CStr RawCStr)
      (says_choose _ says_word
      (says_choose _ (says_lit 1 _)
      (says_choose _ (says_if_eat _ (says_give _ (word w 8)) (says_give _ (word w 9)))
      (says_choose _ (says_give _ y)
      (says_choose _ says_quote
      (says_choose _ (says_lit 1 _)
      (says_choose _ (says_invalid L (word w 2))
      (says_give _ (word w 0))))))))))))))

-- ONE TOKEN
module _ {p : TokenKind → Bool} (L : Lists) where
  pub says_leading : (c : ℕ) → p kind.Whitespace ≡ true → ((bad : Bool) → p (kind.Frontmatter true bad) ≡ true) → Says p (leading L c)
  says_leading c e f = says_bind _ (λ blanks. says_choose _ (says_give _ e) (says_if_begins _ (says_then _ (says_frontmatter L true f)) (says_give _ e)))

  -- after the first character c, frontmatter on
  pub says_fronted : (c : ℕ) → (is_whitespace c ≡ true → Says p (leading L c)) → (is '-' c ≡ true → Says p (frontmatter L false)) → Says p (plain L c) → Says p (fronted L c)
  says_fronted c v f g = says_where _ v (λ n. says_where _ (λ t. says_if_two _ _ (f t) g) (λ t. g))

  pub says_first : (on : Bool) (c : ℕ) (cs : List ℕ) → Says p (choose on (fronted L c) (plain L c)) → p (advance L on (c ∷ cs)).said.kind ≡ true
  unfolding advance
  says_first on c cs h = h.says cs

  pub says_advance : (on : Bool) → p kind.Eof ≡ true → ((c : ℕ) → Says p (choose on (fronted L c) (plain L c))) → Says (λ (t : Told). p t.kind) (advance L on)
  says_advance on e h = record { says = every }
    where
      every : (cs : List ℕ) → p (advance L on cs).said.kind ≡ true
      every [] = unfold advance in e
      every (c ∷ cs) = says_first on c cs (h c)
