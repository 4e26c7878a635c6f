-- The kinds of literals, by form.
use mathlib.Core.Path.{◌≡◌}
use mathlib.Core.Bool.{Bool, true, false}
use Prim.Native.Nat.{ℕ}
use Rattle.std.specs.Prelude.{Option}
use Rattle.token.specs.declared.LiteralKind.TheVariants as kind
use Rattle.literals.specs.declared.Form.{Form}
use Rattle.literals.specs.declared.Form.TheVariants.{Plain, Byte, C}
use Rattle.literals.specs.Forms.{single_kind, double_kind, raw_kind}

module _ {b : Bool} (t : Bool) where
  pub single_byte : b ≡ true → kind.Byte t ≡ single_kind b t
  single_byte e = rw e

  pub single_char : b ≡ false → kind.Char t ≡ single_kind b t
  single_char e = rw e

module _ {f : Form} (t : Bool) where
  pub double_plain : f ≡ Plain → kind.Str t ≡ double_kind f t
  double_plain e = rw e

  pub double_byte : f ≡ Byte → kind.ByteStr t ≡ double_kind f t
  double_byte e = rw e

  pub double_c : f ≡ C → kind.CStr t ≡ double_kind f t
  double_c e = rw e

module _ {f : Form} (n : Option ℕ) where
  pub raw_plain : f ≡ Plain → kind.RawStr n ≡ raw_kind f n
  raw_plain e = rw e

  pub raw_byte : f ≡ Byte → kind.RawByteStr n ≡ raw_kind f n
  raw_byte e = rw e

  pub raw_c : f ≡ C → kind.RawCStr n ≡ raw_kind f n
  raw_c e = rw e
