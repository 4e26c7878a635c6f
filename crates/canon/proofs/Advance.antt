-- Laws of one token, frontmatter off: what trivia begins with, and locality.
use Prim.Native.Nat.{ℕ, suc, ◌≤◌}
use mathlib.Core.Path.{◌≡◌, refl, sym, ap, ◌∙◌}
use mathlib.Core.List.{List, [], ◌∷◌, ◌++◌}
use mathlib.Core.Bool.{Bool, true, false, not}
use lib.ListN.{length, get_or}
use lib.Dec.{eqb}
use borrow.Author.Tests.{eqb-true, not-true}
use native.Mathlib.Omega.{arith}
use Rattle.basics.specs.Choice.{or}
use Rattle.basics.specs.Tests.{is_in}
use Rattle.classes.specs.Whitespace.{is_whitespace}
use Rattle.eaters.specs.Eat.{Got, give, while, ◌>>=◌, choose}
use Rattle.token.specs.declared.TokenKind.{TokenKind}
use Rattle.token.specs.declared.TokenKind.TheVariants.{Whitespace}
use Rattle.token.specs.Names.{is, 'newline', '/'}
use Rattle.token.specs.Lists.{Lists}
use Rattle.token.specs.Punctuation.{symbols}
use Rattle.token.specs.Advance.{plain, Told, advance}
use Rattle.token.specs.Trivia.{is_trivia}
use Rattle.token.proofs.Says.{Says, Worded, says_symbol, says_plain}
use Rattle.token.specs.Broken.{is_broken}
use Rattle.canon.specs.Fair.{Fair}
use Rattle.canon.specs.Local.{stills, Near, Like}
use Rattle.canon.proofs.Sounds.{false_true}
use Rattle.canon.proofs.Rules.{plain_sound}

-- a token that begins with neither a slash nor whitespace is not trivia
abbrev is_meaningful : TokenKind → Bool
is_meaningful k = not (is_trivia k)

worded : Worded is_meaningful
worded = record { bare = refl; literal = λ l n. refl; life = λ b. refl }

pub not_trivia : (L : Lists) (c : ℕ) → is '/' c ≡ false → is_whitespace c ≡ false → Says is_meaningful (plain L c)
not_trivia L c s w =
    says_plain worded L c (λ t. false_true (sym s ∙ t)) (λ t. false_true (sym w ∙ t)) (says_symbol is_meaningful (λ d. false) symbols refl refl c refl)

pub white_not_slash : (c : ℕ) → is_whitespace c ≡ true → is '/' c ≡ false
white_not_slash c w = go (is '/' c) refl
  where
    go : (s : Bool) → is '/' c ≡ s → s ≡ false
    go true e = unfold is_whitespace in (false_true (sym (ap is_whitespace (eqb-true c '/' e)) ∙ w))
    go false e = refl

-- whitespace is trivia
pub white_is : (L : Lists) (c : ℕ) (cs : List ℕ) → is_whitespace c ≡ true → is_trivia (advance L false (c ∷ cs)).said.kind ≡ true
unfolding advance choose ◌>>=◌ give
white_is L c cs w = rw (white_not_slash c w, w)

-- trivia begins with a slash or with whitespace
pub trivia_still : (L : Lists) (c : ℕ) (cs : List ℕ) → is_trivia (advance L false (c ∷ cs)).said.kind ≡ true → is_in stills c ≡ true
unfolding advance choose is_whitespace
trivia_still L c cs e = go (eqb c 0) (is '/' c) (is_whitespace c) refl refl
  where
    go : (z s w : Bool) → is '/' c ≡ s → is_whitespace c ≡ w → or z (or s w) ≡ true
    go true s w p q = refl
    go false true w p q = refl
    go false false true p q = refl
    go false false false p q = false_true (sym (not-true _ ((not_trivia L c p q).says cs)) ∙ e)

-- a newline that no whitespace follows is a token
pub newline_is : (L : Lists) (cs : List ℕ) → is_whitespace (get_or cs 0 0) ≡ false → advance L false ('newline' ∷ cs) ≡ record { took = 1; said = record { kind = Whitespace; on = false } }
unfolding advance choose ◌>>=◌ give while is_whitespace
newline_is L [] w = refl
newline_is L (c ∷ cs) w = rw w

-- a token, by the rule of its first character
abbrev told : Got TokenKind → Got Told
told r = record { took = suc r.took; said = record { kind = r.said; on = false } }

-- LOCALITY: for good lists, what follows a token that is not broken and does not begin with whitespace may be changed to what is like it
pub advance_local : (L : Lists) → Fair L → (u a b : List ℕ) → Like 2 a b → (advance L false (u ++ a)).took ≤ length u
    → is_broken (advance L false (u ++ a)).said.kind ≡ false → 1 ≤ length u → is_whitespace (get_or u 0 0) ≡ false
    → advance L false (u ++ b) ≡ advance L false (u ++ a)
unfolding advance choose
advance_local L fair [] a b l h k n w = absurd (omega arith)
advance_local L fair (c ∷ u) a b l h k n w = ap told ((plain_sound true L (λ e. fair) c (λ e. w)).local u a b l (omega arith) (ap not k))

-- for any lists, what follows any token may be changed past two characters
pub advance_near : (L : Lists) → (u a b : List ℕ) → Near 2 a b → (advance L false (u ++ a)).took ≤ length u → 1 ≤ length u
    → advance L false (u ++ b) ≡ advance L false (u ++ a)
unfolding advance choose
advance_near L [] a b l h n = absurd (omega arith)
advance_near L (c ∷ u) a b l h n = ap told ((plain_sound false L (λ e. false_true e) c (λ e. false_true e)).near u a b l (omega arith))
