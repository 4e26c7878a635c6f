-- Locality: a token depends on its own characters and on at most two past its end. What may stand after it in place of what stood there.
use Rattle.std.specs.Prelude.{ℕ, suc, ◌≤◌, ◌≡◌, Bool, true, List, [], ◌∷◌, ◌++◌, length, get_or}
use Rattle.basics.specs.Tests.{is_in}
use Rattle.classes.specs.Whitespace.{whitespace_points}
use Rattle.eaters.specs.Eat.{Eater}
use Rattle.token.specs.Names.{'newline', '/'}

-- what trivia begins with, and the 0 that stands for the end
abbrev pub stills : List ℕ
stills = 0 ∷ '/' ∷ whitespace_points

-- a and b begin alike: n characters, or all of both
pub data Near : (n : ℕ) (a b : List ℕ) → Type 0 where
  some : {a b : List ℕ} → Near 0 a b
  all : {n : ℕ} → Near n [] []
  both : {n c : ℕ} {a b : List ℕ} → Near n a b → Near (suc n) (c ∷ a) (c ∷ b)

-- the same; and b may begin with a newline where a is at its end or begins with whitespace or a slash
pub data Like : (n : ℕ) (a b : List ℕ) → Type 0 where
  far : {a b : List ℕ} → Like 0 a b
  ends : {n : ℕ} → Like n [] []
  gap : {n : ℕ} {a b : List ℕ} → is_in stills (get_or a 0 0) ≡ true → Like n a ('newline' ∷ b)
  same : {n c : ℕ} {a b : List ℕ} → Like n a b → Like (suc n) (c ∷ a) (c ∷ b)

-- A scan is sound: it takes no more than is there, if n characters are; it sees no more than two characters past its end; and where what it
-- says is good, those two may be others that are like them.
pub record Sound {A : Type 0} (n : ℕ) (good : A → Bool) (m : Eater A) : Type 0 where
  pub fits : (cs : List ℕ) → n ≤ length cs → (m cs).took ≤ length cs
  pub near : (u a b : List ℕ) → Near 2 a b → (m (u ++ a)).took ≤ length u → m (u ++ b) ≡ m (u ++ a)
  pub local : (u a b : List ℕ) → Like 2 a b → (m (u ++ a)).took ≤ length u → good (m (u ++ a)).said ≡ true → m (u ++ b) ≡ m (u ++ a)
