-- A cursor in a text: what is left from it on, and what a peek gives.
use Rattle.std.specs.Prelude.{ℕ, ◌+◌, ◌≡◌, refl, List, [], ◌∷◌, drop, Option, None, Some}
use Rattle.text.specs.declared.Decoded.{Decoded}
use Rattle.text.specs.declared.Decoded.TheVariants.{Char, End, Ill}
use Rattle.text.specs.Utf8.{decoded}
use Rattle.text.specs.Chars.{Scalar, width, chars}
use Rattle.cursor.specs.declared.Cursor.{Cursor}

-- THE CHARACTERS FROM A CURSOR ON. Shut: the laws of a step and the public calls alone look inside.
pub rest : List ℕ → Cursor → List ℕ
rest s c = chars (drop c.at s)

pub rest_is : (s : List ℕ) (c : Cursor) → rest s c ≡ chars (drop c.at s)
unfolding rest
rest_is s c = refl

-- the character at a cursor, and the cursor past it
abbrev pub onto : (at : ℕ) → Decoded → Option (ℕ × Cursor)
onto at (Char x w) = Some (x, record { at = at + w })
onto at End = None
onto at (Ill cause) = None

unfoldable pub step_at : List ℕ → Cursor → Option (ℕ × Cursor)
step_at s c = onto c.at (decoded (drop c.at s))

-- the character x stands at c, and d is past it
pub record Here (s : List ℕ) (c : Cursor) (x : ℕ) (d : Cursor) : Type 0 where
  pub chars : rest s c ≡ x ∷ rest s d
  pub next : step_at s c ≡ Some (x, d)
  pub scalar : Scalar x
  pub bytes : d.at ≡ c.at + width x

-- what a peek at a cursor gives
pub data Seen (s : List ℕ) (c : Cursor) : Option (ℕ × Cursor) → Type 0 where
  char : {x : ℕ} {d : Cursor} → Here s c x d → Seen s c (Some (x, d))
  end : rest s c ≡ [] → Seen s c None
