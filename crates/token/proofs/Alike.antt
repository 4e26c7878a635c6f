-- LISTS THAT HOLD THE SAME POINTS GIVE THE SAME TOKENS. The book asks a list one question, whether it holds a character, so the classes of a character are all
-- that a rule sees of it.
use Prim.Native.Nat.{ℕ, zero, suc, pred}
use mathlib.Core.Path.{◌≡◌, refl, ap}
use mathlib.Core.Bool.{Bool, false}
use mathlib.Core.List.{List, [], ◌∷◌}
use lib.Dec.{ltb}
use Rattle.basics.specs.Choice.{pick, or}
use Rattle.classes.specs.Identifiers.{id_start, id_continue, letter, digit, underscore}
use Rattle.classes.specs.Emoji.{emoji_char}
use Rattle.text.specs.Chars.{chars}
use Rattle.token.specs.Lists.{Lists, starting, going, smiling}
use Rattle.token.specs.Alike.{Alike}
use Rattle.token.specs.Names.{is, 'joiner', '-', 'dot'}
use Rattle.token.specs.Words.{in_invalid}
use Rattle.token.specs.Lifetimes.{naming}
use Rattle.token.specs.Frontmatter.{in_infostring}
use Rattle.token.specs.Advance.{decided, advance}
use Rattle.token.specs.Tokens.{tokens_after, tokens, placed, records}

module _ (L M : Lists) (a : Alike L M) where
  -- the classes
  start_alike : starting L ≡ starting M
  unfolding id_start
  start_alike = λ i c. pick (ltb c 0x80) (or (letter c) (underscore c)) (a.starts c i)

  go_alike : going L ≡ going M
  unfolding id_continue
  go_alike = λ i c. pick (ltb c 0x80) (or (letter c) (or (underscore c) (digit c))) (a.continues c i)

  smile_alike : smiling L ≡ smiling M
  unfolding emoji_char
  smile_alike = λ i c. pick (ltb c 0x80) false (a.emoji c i)

  -- the questions that rules make of them
  naming_alike : naming L ≡ naming M
  naming_alike = λ i c. or (start_alike i c) (digit c)

  invalid_alike : in_invalid L ≡ in_invalid M
  invalid_alike = λ i c. or (go_alike i c) (or (smile_alike i c) (is 'joiner' c))

  infostring_alike : in_infostring L ≡ in_infostring M
  infostring_alike = λ i c. or (go_alike i c) (or (is '-' c) (is 'dot' c))

  point_alike : ◌≡◌ {A = ℕ → Bool} (λ c. or (is 'dot' c) (starting L c)) (λ c. or (is 'dot' c) (starting M c))
  point_alike = λ i c. or (is 'dot' c) (start_alike i c)

  -- so the decision over the first character of a token
  decided_alike : (on : Bool) (c : ℕ) → decided L on c ≡ decided M on c
  decided_alike on c =
      rw (naming_alike, invalid_alike, infostring_alike, point_alike, ap (λ p. p c) start_alike, ap (λ p. p c) smile_alike, start_alike, go_alike, smile_alike) refl

  -- a token
  pub same_token : (on : Bool) (cs : List ℕ) → advance L on cs ≡ advance M on cs
  unfolding advance
  same_token on [] = refl
  same_token on (c ∷ cs) = rw (decided_alike on c) refl

  after_alike : (on : Bool) (skip : ℕ) (cs : List ℕ) → tokens_after L on skip cs ≡ tokens_after M on skip cs
  unfolding tokens_after
  after_alike on zero [] = refl
  after_alike on (suc k) [] = refl
  after_alike on (suc k) (c ∷ cs) = after_alike on k cs
  after_alike on zero (c ∷ cs) = rw (same_token on (c ∷ cs), after_alike (advance M on (c ∷ cs)).said.on (pred (advance M on (c ∷ cs)).took) cs) refl

  -- THE TOKENS, and their records
  pub same_tokens : (on : Bool) (cs : List ℕ) → tokens L on cs ≡ tokens M on cs
  same_tokens on cs = after_alike on 0 cs

  pub same_records : (on : Bool) (s : List ℕ) → records L on s ≡ records M on s
  same_records on s = ap (placed s 0) (same_tokens on (chars s))
