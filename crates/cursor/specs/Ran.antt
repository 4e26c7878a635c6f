-- What a scan of the code did, by an eater of the book.
use Rattle.std.specs.Prelude.{ℕ, ◌+◌, ◌-◌, ◌≤◌, ◌≡◌, List, drop}
use Rattle.eaters.specs.Eat.{Eater}
use Rattle.token.specs.declared.TokenKind.{TokenKind}
use Rattle.token.specs.declared.TokenKind.TheVariants as kind
use Rattle.cursor.specs.declared.Cursor.{Cursor}
use Rattle.cursor.specs.declared.Kinded.{Kinded}
use Rattle.cursor.specs.declared.Kinded.TheVariants.{Plain, Literal}
use Rattle.cursor.specs.declared.Scanned.{Scanned}
use Rattle.cursor.specs.Cursors.{rest}
use Rattle.cursor.specs.Moved.{Moved}

-- what an eater leaves
abbrev pub left : {A : Type 0} → Eater A → List ℕ → List ℕ
left m cs = drop (m cs).took cs

-- from c to d, saying x, as m does over the characters at c
pub record Ran {A : Type 0} (m : Eater A) (s : List ℕ) (c d : Cursor) (x : A) : Type 0 where
  pub moved : Moved s c d (left m (rest s c))
  pub said : x ≡ (m (rest s c)).said

-- the kind of a token of which `before` bytes are taken at c. A suffix starts at d, which is counted from the token's start.
abbrev pub kind_from : (before : ℕ) → Cursor → Kinded → TokenKind
kind_from before c (Plain k) = k
kind_from before c (Literal k d) = kind.Literal k (before + (d.at - c.at))

-- a suffix does not start before c, nor past n
pub record Between (c d n : Cursor) : Type 0 where
  pub from : c.at ≤ d.at
  pub to : d.at ≤ n.at

abbrev pub Past : (c n : Cursor) → Kinded → Type 0
Past c n (Plain k) = Unit {0}
Past c n (Literal k d) = Between c d n

-- what the scan of a whole token promises: it is by the rule m, after a first character of one byte
pub record Begun (m : Eater TokenKind) (s : List ℕ) (from : Cursor) (r : Scanned) : Type 0 where
  pub past : Past from r.next r.kind
  pub ran : Ran m s from r.next (kind_from 1 from r.kind)
