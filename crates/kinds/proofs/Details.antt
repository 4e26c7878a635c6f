-- What a literal holds is its own code.
use Prim.Native.Nat.{ℕ}
use mathlib.Core.Path.{◌≡◌}
use Rattle.token.specs.declared.LiteralKind.{LiteralKind}
use Rattle.token.specs.declared.TokenKind.{TokenKind}
use Rattle.token.specs.declared.TokenKind.TheVariants.{Literal}
use Rattle.kinds.specs.Codes.{literal_code, detail}
use Rattle.kinds.specs.Coded.{Coded}

pub literal_detail_lem : {k : TokenKind} {l : LiteralKind} {n x : ℕ} → k ≡ Literal l n → Coded 4105 (literal_code l) x → Coded 4105 (detail k) x
literal_detail_lem h p = record { same = rw h p.same; small = p.small }
