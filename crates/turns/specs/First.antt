-- Where a token begins: the mode after its first character, and what is written.
use Rattle.std.specs.Prelude.{ℕ, Bool, true, false}
use Rattle.basics.specs.Choice.{pick}
use Rattle.classes.specs.Identifiers.{digit}
use Rattle.classes.specs.Whitespace.{is_whitespace}
use Rattle.token.specs.Names.{is, 'double', '#', 'single', '/', '0', 'b', 'c', 'k', 'r'}
use Rattle.token.specs.Lists.{Lists, starting, smiling}
use Rattle.machine.specs.declared.Mode.{Mode}
use Rattle.machine.specs.declared.Mode.TheVariants.{Start, OneSlash, InWord, InBadWord, InString, GotR, GotK, GotB, GotC, GotHash, GotQuote, GotZero, InDigits}
use Rattle.machine.specs.Machine.{Next}
use Rattle.turns.specs.declared.First.{First}
use Rattle.turns.specs.declared.Shown.{Shown}
use Rattle.turns.specs.declared.Shown.TheVariants.{Itself, Line, None}
use Rattle.turns.specs.Steps.{shown_out}

-- with no letter and no digit: #, quotes, emoji, and one character that is a token or unknown
abbrev pub late_mode : Lists → (c : ℕ) → Mode
late_mode L c =
    pick (is '#' c) GotHash
    (pick (is 'single' c) GotQuote
    (pick (is 'double' c) InString
    (pick (smiling L c) InBadWord
    (Start false))))

-- with no slash and no whitespace
abbrev pub other_mode : Lists → (c : ℕ) → Mode
other_mode L c =
    pick (is 'r' c) GotR
    (pick (is 'k' c) GotK
    (pick (is 'b' c) GotB
    (pick (is 'c' c) GotC
    (pick (starting L c) InWord
    (pick (digit c) (pick (is '0' c) GotZero InDigits)
    (late_mode L c))))))

-- what is written, and the mode after it
abbrev pub first : Shown → Mode → First
first s m = record { shown = s; mode = m }

-- with any character: a slash is held back; whitespace writes one newline, or nothing where trivia stands before it
abbrev pub first_of : Lists → (gap : Bool) (c : ℕ) → First
first_of L gap c = pick (is '/' c) (first None (OneSlash gap)) (pick (is_whitespace c) (pick gap (first None (Start true)) (first Line (Start true))) (first Itself (other_mode L c)))

-- what that means, as the machine says it, at the place p
abbrev pub begun : (p c : ℕ) → First → Next
begun p c f = record { out = shown_out c f.shown; mode = f.mode; from = p }
