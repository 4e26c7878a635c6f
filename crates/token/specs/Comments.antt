-- Comments (000's line_comment and block_comment), after the two characters that open them.
use Rattle.std.specs.Prelude.{ℕ, List, Bool, not, get_or, Option, None, Some}
use Rattle.basics.specs.Choice.{pick, and, or}
use Rattle.eaters.specs.Eat.{Eater, give, while, ◌>>=◌, texted}
use Rattle.eaters.specs.Look.{if_eat}
use Rattle.eaters.specs.Scan.{Turn, go, deeper, shallower, scan}
use Rattle.token.specs.declared.DocStyle.{DocStyle}
use Rattle.token.specs.declared.DocStyle.TheVariants.{Outer, Inner}
use Rattle.token.specs.declared.TokenKind.{TokenKind}
use Rattle.token.specs.declared.TokenKind.TheVariants.{LineComment, BlockComment, Slash}
use Rattle.token.specs.Names.{is, 'newline', '!', '*', '/'}

-- //! is inner; /// is outer, unless a fourth / follows
abbrev pub line_doc : (text : List ℕ) → Option DocStyle
line_doc t = pick (is '!' (get_or t 0 0)) (Some Inner) (pick (and (is '/' (get_or t 0 0)) (not (is '/' (get_or t 1 0)))) (Some Outer) None)

-- not the end of the line
abbrev pub in_line : ℕ → Bool
in_line c = not (is 'newline' c)

-- up to the end of the line
abbrev pub line_comment : Eater TokenKind
line_comment = do
  t ← while in_line
  give (LineComment (line_doc t))

-- /*! is inner; /** is outer, unless * or / follows
abbrev pub block_doc : (text : List ℕ) → Option DocStyle
block_doc t =
    pick (is '!' (get_or t 0 0)) (Some Inner) (pick (and (is '*' (get_or t 0 0)) (not (or (is '*' (get_or t 1 0)) (is '/' (get_or t 1 0))))) (Some Outer) None)

-- /* adds one to the depth and */ takes one, each pair used once
abbrev pub block_turn : (depth c next : ℕ) → Turn
block_turn d c e = pick (and (is '/' c) (is '*' e)) (deeper d) (pick (and (is '*' c) (is '/' e)) (shallower d) (go d))

-- depth 1 after /*; it ends where the depth is 0
abbrev pub block_comment : Eater TokenKind
block_comment = do
  r ← texted (scan block_turn 0 1)
  give (BlockComment (block_doc r.text) r.said)

-- after a slash
abbrev pub slash : Eater TokenKind
slash = if_eat (is '/') line_comment (if_eat (is '*') block_comment (give Slash))
