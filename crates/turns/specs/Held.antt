-- Where slashes and stars are held back, until it is known what begins: what a character does to the token before it, and what is written before it.
use Rattle.std.specs.Prelude.{ℕ, Bool, true, false}
use Rattle.basics.specs.Choice.{pick, or}
use Rattle.token.specs.Names.{is, '!', '*', '/'}
use Rattle.machine.specs.declared.Mode.TheVariants.{TwoSlashes, ThreeSlashes, SlashStar, SlashStars, DocLine, PlainLine, Block}
use Rattle.machine.specs.declared.Last.TheVariants.{PlainChar, AStar}
use Rattle.goes.specs.declared.Goes.{Goes}
use Rattle.goes.specs.declared.Goes.TheVariants.{Takes, Drops, Ends}
use Rattle.comment_turns.specs.Comments.{doc_goes, plain_goes, last_char, block_mode}
use Rattle.turns.specs.declared.Before.{Before}
use Rattle.turns.specs.declared.Before.TheVariants.{Nothing, Newline, Slash, Slashes, Slashes3, Star, Stars}
use Rattle.turns.specs.declared.Turn.{Turn}

abbrev pub turn : Before → Goes → Turn
turn b g = record { before = b; goes = g }

abbrev pub plainly : Goes → Turn
plainly g = turn Nothing g

-- what trivia writes: one newline for a run of it
abbrev pub newline_or : (gap : Bool) → Before
newline_or gap = pick gap Nothing Newline

-- mode OneSlash, after /: a comment, or the slash was a token
abbrev pub one_slash : (gap : Bool) (c : ℕ) → Turn
one_slash r c = pick (is '/' c) (plainly (Drops (TwoSlashes r))) (pick (is '*' c) (plainly (Drops (SlashStar r))) (turn Slash (Ends false)))

-- mode TwoSlashes, after //: an inner doc comment, three slashes, or trivia
abbrev pub two_slashes : (gap : Bool) (c : ℕ) → Turn
two_slashes r c = pick (is '!' c) (turn Slashes (Takes DocLine)) (pick (is '/' c) (plainly (Drops (ThreeSlashes r))) (turn (newline_or r) (plain_goes c)))

-- mode ThreeSlashes, after ///: with a fourth it is trivia, else an outer doc comment
abbrev pub three_slashes : (gap : Bool) (c : ℕ) → Turn
three_slashes r c = pick (is '/' c) (turn (newline_or r) (Drops PlainLine)) (turn Slashes3 (doc_goes c))

-- mode SlashStar, after /*: an inner doc comment, two stars, or trivia
abbrev pub slash_star : (gap : Bool) (c : ℕ) → Turn
slash_star r c = pick (is '!' c) (turn Star (Takes (Block true 0 PlainChar))) (pick (is '*' c) (plainly (Drops (SlashStars r))) (turn (newline_or r) (Drops (Block false 0 (last_char c)))))

-- mode SlashStars, after /**: with a third star or with its end it is trivia, else an outer doc comment
abbrev pub slash_stars : (gap : Bool) (c : ℕ) → Turn
slash_stars r c = pick (or (is '*' c) (is '/' c)) (turn (newline_or r) (Drops (block_mode false 0 AStar c))) (turn Stars (Takes (block_mode true 0 AStar c)))
