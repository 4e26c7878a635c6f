-- What the programs write of a text: the lines of its tokens, or its key, or the line that says why it is refused. `limit` is the most pairs of a list.
use Rattle.std.specs.Prelude.{ℕ, Bool, false, List, ltb, length, Ok, Err}
use Rattle.basics.specs.Choice.{pick}
use Rattle.refusal.specs.declared.Bad.TheVariants.{TooLong}
use Rattle.refusal.specs.Verdict.{Verdict}
use Rattle.refusal.specs.Numbers.{bad_numbers}
use Rattle.token.specs.declared.Token.{Token}
use Rattle.token.specs.Lists.{Lists}
use Rattle.lexer.specs.declared.Scan.{Scan}
use Rattle.lexer.specs.Answers.{token_verdict}
use Rattle.lexer.specs.Steps.{start_of, records_past}
use Rattle.puts.specs.Joined.{joined}
use Rattle.token_line.specs.Line.{lined_line}
use Rattle.lines.specs.Lines.{lines_from}
use Rattle.line_ends.specs.LineEnds.{replaced}
use Rattle.canon.specs.Key.{key_of}
use Rattle.key.specs.Answers.{KeyAnswer, key_answer, key_numbers}
use Rattle.reports.specs.Lines.{refused_line}

-- the line of a token with the line feeds before it
abbrev pub feeds_line : Token → List ℕ
feeds_line t = lined_line t.kind t.len t.line

-- such lines of the tokens past a scan
abbrev pub lined_past : Lists → (s : List ℕ) → Scan → List ℕ
lined_past L s c = joined feeds_line (records_past L s c)

-- the lines of a text's tokens, with frontmatter off, in one form or the other
abbrev pub token_lines : Lists → (s : List ℕ) (lined : Bool) → List ℕ
token_lines L s lined = pick lined (lined_past L s (start_of false)) (lines_from L s 0)

-- a text of more bytes than the programs read is refused before it is judged
abbrev pub within_limit : (s said : List ℕ) → List ℕ
within_limit s said = pick (ltb 65536 (length s)) (refused_line (bad_numbers TooLong)) said

abbrev pub unless_refused : Verdict → List ℕ → List ℕ
unless_refused (Ok tt) said = said
unless_refused (Err bad) said = refused_line (bad_numbers bad)

-- THE TOKENS: their lines, or one line that says why there are none
abbrev pub tokens_said : (limit : ℕ) (s : List ℕ) → Lists → (lined : Bool) → List ℕ
tokens_said limit s L lined = within_limit s (unless_refused (token_verdict limit s L) (token_lines L s lined))

abbrev pub unless_unkeyed : KeyAnswer → List ℕ → List ℕ
unless_unkeyed (Ok n) said = said
unless_unkeyed (Err refusal) said = refused_line (key_numbers (Err refusal))

-- THE KEY: its bytes and nothing else, or one line that says why there is none
abbrev pub key_said : (limit : ℕ) (s : List ℕ) → Lists → List ℕ
key_said limit s L = within_limit s (unless_unkeyed (key_answer limit s L 65536) (key_of L (replaced s)))
