-- Any lists give the same shebang. What whitespace, a slash and an opening bracket begin does not depend on lists; any other character begins a token that is neither trivia nor an opening bracket.
use Prim.Native.Nat.{ℕ, zero, suc, ◌+◌, ◌≤◌}
use mathlib.Core.Path.{◌≡◌, refl, sym, ap, ◌∙◌}
use mathlib.Core.Bool.{Bool, true, false, not, true≢false}
use mathlib.Core.List.{List, [], ◌∷◌}
use mathlib.Core.Logic.{⊎_elim}
use lib.ListN.{length, drop, length-drop}
use native.Mathlib.Omega.{arith}
use borrow.Author.Tests.{eqb-true, not-true}
use Rattle.basics.specs.Choice.{pick, and}
use Rattle.basics.proofs.Choices.{yes_or_no, and_1, and_2}
use Rattle.classes.specs.Whitespace.{is_whitespace}
use Rattle.classes.specs.Identifiers.{letter, id_start}
use Rattle.eaters.specs.Eat.{Got, choose}
use Rattle.eaters.specs.Find.{at, nowhere}
use Rattle.token.specs.declared.TokenKind.{TokenKind}
use Rattle.token.specs.Names.{is, '[', '/', '!', '#'}
use Rattle.token.specs.Lists.{Lists}
use Rattle.token.specs.Punctuation.{symbols}
use Rattle.token.specs.Advance.{plain}
use Rattle.token.specs.Trivia.{is_trivia}
use Rattle.token.proofs.Says.{Says, Worded, says_symbol, says_plain}
use Rattle.token.specs.Shebang.{line_bytes, shebang, is_bracket, bracketed}
use Rattle.cursor.specs.Ran.{left}
use Rattle.shebang.proofs.First.{bracket_none, bracket_step}

-- neither trivia nor an opening bracket
abbrev other : TokenKind → Bool
other k = and (not (is_trivia k)) (not (is_bracket k))

worded : Worded other
worded = record { bare = refl; literal = λ l n. refl; life = λ b. refl }

-- ANY OTHER CHARACTER
other_plain : (L : Lists) (c : ℕ) → is '/' c ≡ false → is_whitespace c ≡ false → is '[' c ≡ false → Says other (plain L c)
other_plain L c p q n =
    says_plain worded L c (λ t. absurd (true≢false (sym t ∙ p))) (λ t. absurd (true≢false (sym t ∙ q))) (says_symbol other (is '[') symbols refl refl c n)

-- the answer from a token and from what is left after it
abbrev answer : Lists → List ℕ → Got TokenKind → Bool
answer L cs g = pick (is_trivia g.said) (bracketed L (drop g.took cs)) (is_bracket g.said)

neither : (k : TokenKind) (b : Bool) → other k ≡ true → pick (is_trivia k) b (is_bracket k) ≡ false
neither k b e = rw (not-true (is_trivia k) (and_1 _ _ e), not-true (is_bracket k) (and_2 (not (is_trivia k)) _ e))

no_bracket : (L : Lists) (c : ℕ) (cs : List ℕ) → is '/' c ≡ false → is_whitespace c ≡ false → is '[' c ≡ false → answer L cs (plain L c cs) ≡ false
no_bracket L c cs p q n = neither (plain L c cs).said (bracketed L (left (plain L c) cs)) ((other_plain L c p q n).says cs)

module _ (L M : Lists) where
  -- WHITESPACE, A SLASH, AN OPENING BRACKET
  same_slash : (c : ℕ) (cs : List ℕ) → is '/' c ≡ true → plain L c cs ≡ plain M c cs
  unfolding choose
  same_slash c cs e = rw e

  same_white : (c : ℕ) (cs : List ℕ) → is '/' c ≡ false → is_whitespace c ≡ true → plain L c cs ≡ plain M c cs
  unfolding choose
  same_white c cs e w = rw (e, w)

  same_bracket : (c : ℕ) (cs : List ℕ) → c ≡ '[' → plain L c cs ≡ plain M c cs
  unfolding choose is_whitespace id_start letter
  same_bracket c cs e = rw e

  turn : (c : ℕ) (cs : List ℕ) → ((n : ℕ) → bracketed L (drop n cs) ≡ bracketed M (drop n cs)) → answer L cs (plain L c cs) ≡ answer M cs (plain M c cs)
  turn c cs ih =
      ⊎_elim (λ p. same (same_slash c cs p))
      (λ p. ⊎_elim (λ q. same (same_white c cs p q))
      (λ q. ⊎_elim (λ n. same (same_bracket c cs (eqb-true c '[' n)))
      (λ n. no_bracket L c cs p q n ∙ sym (no_bracket M c cs p q n))
      (yes_or_no (is '[' c))) (yes_or_no (is_whitespace c))) (yes_or_no (is '/' c))
    where
      same : plain L c cs ≡ plain M c cs → answer L cs (plain L c cs) ≡ answer M cs (plain M c cs)
      same e = ap (λ (b : Bool). pick (is_trivia (plain L c cs).said) b (is_bracket (plain L c cs).said)) (ih (plain L c cs).took) ∙ ap (answer M cs) e

  bracket_within : (n : ℕ) (cs : List ℕ) → length cs ≤ n → bracketed L cs ≡ bracketed M cs
  bracket_within zero [] h = bracket_none L ∙ sym (bracket_none M)
  bracket_within zero (c ∷ cs) h = absurd (omega arith)
  bracket_within (suc n) [] h = bracket_none L ∙ sym (bracket_none M)
  bracket_within (suc n) (c ∷ cs) h =
      bracket_step L c cs ∙ turn c cs (λ k. bracket_within n (drop k cs) (omega (arith, length-drop k cs))) ∙ sym (bracket_step M c cs)

  pub any_bracket : (cs : List ℕ) → bracketed L cs ≡ bracketed M cs
  any_bracket cs = bracket_within (length cs) cs (omega arith)

  -- THE LAW
  pub any_lists : (cs : List ℕ) → shebang L cs ≡ shebang M cs
  unfolding shebang
  any_lists [] = refl
  any_lists (a ∷ []) = refl
  any_lists (a ∷ b ∷ cs) = ap (λ (t : Bool). pick (and (is '#' a) (is '!' b)) (pick t nowhere (at (2 + line_bytes cs))) nowhere) (any_bracket cs)
