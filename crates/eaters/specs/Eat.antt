-- A scan is an eater: a function of the characters that are left. It takes some of them, and says something.
-- What it takes are the first `took` characters, and what it leaves are the others.
use Rattle.std.specs.Prelude.{ℕ, zero, suc, ◌+◌, List, [], ◌∷◌, Bool, length, take, drop}
use Rattle.basics.specs.Choice.{pick}

infixl 20 ◌>>=◌
infixl 20 ◌>>◌
pub record Got (A : Type 0) : Type 0 where
  pub took : ℕ
  pub said : A

abbrev pub Eater : Type 0 → Type 0
Eater A = List ℕ → Got A

-- say x, and take nothing
unfoldable pub give : {A : Type 0} → A → Eater A
give x cs = record { took = 0; said = x }

-- say nothing, and take nothing
abbrev pub nothing : Eater (Unit {0})
nothing = give tt

-- take k characters, which have to be there
unfoldable pub eat : ℕ → Eater (Unit {0})
eat k cs = record { took = k; said = tt }

-- take one character, if there is one
unfoldable pub eat_any : Eater (Unit {0})
eat_any cs = record { took = length (take 1 cs); said = tt }

-- the characters of p at the front
abbrev pub take_while : (ℕ → Bool) → List ℕ → List ℕ
take_while p [] = []
take_while p (c ∷ cs) = pick (p c) (c ∷ take_while p cs) []

-- take the characters of p at the front, and say them
unfoldable pub while : (ℕ → Bool) → Eater (List ℕ)
while p cs = record { took = length (take_while p cs); said = take_while p cs }

-- the same, n characters at the most
abbrev pub take_most : ℕ → (ℕ → Bool) → List ℕ → List ℕ
take_most zero p cs = []
take_most (suc n) p [] = []
take_most (suc n) p (c ∷ cs) = pick (p c) (c ∷ take_most n p cs) []

unfoldable pub while_most : ℕ → (ℕ → Bool) → Eater (List ℕ)
while_most n p cs = record { took = length (take_most n p cs); said = take_most n p cs }

-- one scan, and then another over what the first leaves, chosen by what the first says
unfoldable pub ◌>>=◌ : {A B : Type 0} → Eater A → (A → Eater B) → Eater B
◌>>=◌ m f cs =
    let r = m cs in
    let q = f r.said (drop r.took cs) in
    record { took = r.took + q.took; said = q.said }

abbrev pub ◌>>◌ : {A B : Type 0} → Eater A → Eater B → Eater B
◌>>◌ {A} m k = m >>= (λ (x : A). k)

-- what a scan says, with the characters that it took
pub record Read (A : Type 0) : Type 0 where
  pub text : List ℕ
  pub said : A

unfoldable pub texted : {A : Type 0} → Eater A → Eater (Read A)
texted m cs = record { took = (m cs).took; said = record { text = take (m cs).took cs; said = (m cs).said } }

-- one scan or the other
unfoldable pub choose : {A : Type 0} → Bool → Eater A → Eater A → Eater A
choose b this that cs = pick b (this cs) (that cs)
