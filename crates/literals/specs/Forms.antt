-- The forms of literals, and what their scans promise.
use Rattle.std.specs.Prelude.{ℕ, ◌≡◌, Bool, true, false, List, Option}
use Rattle.eaters.specs.Eat.{Eater}
use Rattle.token.specs.declared.LiteralKind.{LiteralKind}
use Rattle.token.specs.declared.LiteralKind.TheVariants as kind
use Rattle.token.specs.Lists.{Lists}
use Rattle.token.specs.Literals.{Body, suffix, literal}
use Rattle.cursor.specs.declared.Cursor.{Cursor}
use Rattle.cursor.specs.declared.Kinded.TheVariants.{Literal}
use Rattle.cursor.specs.declared.Scanned.{Scanned}
use Rattle.cursor.specs.Ran.{Ran, kind_from, Past}
use Rattle.literals.specs.declared.Form.{Form}
use Rattle.literals.specs.declared.Form.TheVariants.{Plain, Byte, C}

-- a byte, or a character
abbrev pub single_kind : (byte : Bool) → Bool → LiteralKind
single_kind true t = kind.Byte t
single_kind false t = kind.Char t

abbrev pub double_kind : Form → Bool → LiteralKind
double_kind Plain t = kind.Str t
double_kind Byte t = kind.ByteStr t
double_kind C t = kind.CStr t

abbrev pub raw_kind : Form → Option ℕ → LiteralKind
raw_kind Plain n = kind.RawStr n
raw_kind Byte n = kind.RawByteStr n
raw_kind C n = kind.RawCStr n

-- the suffix of a literal whose body ends at c
pub record SuffixRan (L : Lists) (k : LiteralKind) (suffixed : Bool) (s : List ℕ) (c : Cursor) (r : Scanned) : Type 0 where
  pub kind : r.kind ≡ Literal k c
  pub ran : Ran (suffix L suffixed) s c r.next tt

-- a literal of which any number of bytes is taken before
pub record LiteralRan (L : Lists) (body : Eater Body) (s : List ℕ) (from : Cursor) (r : Scanned) : Type 0 where
  pub past : Past from r.next r.kind
  pub ran : (before : ℕ) → Ran (literal L before body) s from r.next (kind_from before from r.kind)
