-- The lines that tell why something is refused.
use Rattle.std.specs.Prelude.{ℕ, List, ◌++◌, codes}
use Rattle.std.specs.Fmt.{decimal}
use Rattle.refusal.specs.declared.Numbers.{Numbers}
use Rattle.refusal.specs.declared.Bad.{Bad}
use Rattle.refusal.specs.declared.Bad.TheVariants.{TooLong, List as BadList, NotUtf8}
use Rattle.refusal.specs.Numbers.{bad_numbers, cause_number}

-- the word, the number of the refusal and the number beside it, with tabs between them
abbrev pub refused_numbers : Numbers → List ℕ
refused_numbers n = codes "refused\t" ++ decimal n.number ++ codes "\t" ++ decimal n.beside

abbrev pub refused_line : Numbers → List ℕ
refused_line n = refused_numbers n ++ codes "\n"

-- the same with the cause where the text is not UTF-8
abbrev pub why_line : Bad → List ℕ
why_line (NotUtf8 place cause) = refused_numbers (bad_numbers (NotUtf8 place cause)) ++ codes "\t" ++ decimal (cause_number cause) ++ codes "\n"
why_line TooLong = refused_line (bad_numbers TooLong)
why_line (BadList list pair) = refused_line (bad_numbers (BadList list pair))

-- the line of a file of lists that is refused
abbrev pub lists_line : Numbers → List ℕ
lists_line n = codes "lists\t" ++ decimal n.number ++ codes "\t" ++ decimal n.beside ++ codes "\t" ++ decimal n.second ++ codes "\n"
