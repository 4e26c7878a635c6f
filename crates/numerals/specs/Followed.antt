-- What a number is, as the rules of the book say it.
use Rattle.std.specs.Prelude.{true}
use Rattle.token.specs.declared.LiteralKind.{LiteralKind}
use Rattle.token.specs.Literals.{Body}

-- of this kind, and a suffix may follow it, as it may follow every number
abbrev pub followed : LiteralKind → Body
followed k = record { kind = k; suffixed = true }
