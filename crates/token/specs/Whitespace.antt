-- Whitespace (000's whitespace), after its first character: the longest run of the 11 points.
use Rattle.eaters.specs.Eat.{Eater, give, while, ◌>>◌}
use Rattle.classes.specs.Whitespace.{is_whitespace}
use Rattle.token.specs.declared.TokenKind.{TokenKind}
use Rattle.token.specs.declared.TokenKind.TheVariants as kind

abbrev pub whitespace : Eater TokenKind
whitespace = while is_whitespace >> give kind.Whitespace
