-- What the scans of lifetimes promise: their rules in the book, whatever was taken before them, and whatever a quote begins otherwise.
use Rattle.std.specs.Prelude.{ℕ, ◌≡◌, Bool, List, Option, Some, None}
use Rattle.eaters.specs.Eat.{Eater}
use Rattle.token.specs.declared.TokenKind.{TokenKind}
use Rattle.token.specs.Lists.{Lists}
use Rattle.token.specs.Lifetimes.{lifetime_rest, after_quote_r, lifetime_or}
use Rattle.cursor.specs.declared.Cursor.{Cursor}
use Rattle.cursor.specs.declared.Scanned.{Scanned}
use Rattle.cursor.specs.Cursors.{rest}
use Rattle.cursor.specs.Ran.{Ran, kind_from, Past}

-- the rest of a name, of which any number of bytes is taken before
pub record RestRan (L : Lists) (numbered : Bool) (s : List ℕ) (from : Cursor) (r : Scanned) : Type 0 where
  pub past : Past from r.next r.kind
  pub ran : (before : ℕ) → Ran (lifetime_rest L numbered before) s from r.next (kind_from before from r.kind)

-- what an r after the quote begins
pub record RawNameRan (L : Lists) (s : List ℕ) (from : Cursor) (r : Scanned) : Type 0 where
  pub past : Past from r.next r.kind
  pub ran : Ran (after_quote_r L) s from r.next (kind_from 2 from r.kind)

-- a lifetime was found, whatever a quote begins otherwise; or that is what it begins
pub data LifeRan (L : Lists) (s : List ℕ) (from : Cursor) : Option Scanned → Type 0 where
  found : {r : Scanned} → Past from r.next r.kind → ((char : Eater TokenKind) → Ran (lifetime_or L char) s from r.next (kind_from 1 from r.kind)) → LifeRan L s from (Some r)
  other : ((char : Eater TokenKind) → lifetime_or L char (rest s from) ≡ char (rest s from)) → LifeRan L s from None
