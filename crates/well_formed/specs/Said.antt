-- What the program writes of a text that was judged.
use Rattle.std.specs.Prelude.{ℕ, List, ◌++◌, Ok, Err, codes}
use Rattle.std.specs.Fmt.{decimal}
use Rattle.refusal.specs.Verdict.{Verdict}
use Rattle.reports.specs.Lines.{why_line}

abbrev pub said : Verdict → (bytes : ℕ) → List ℕ
said (Ok tt) bytes = codes "well-formed\t" ++ decimal bytes ++ codes "\n"
said (Err bad) bytes = why_line bad
