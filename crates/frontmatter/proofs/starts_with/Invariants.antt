-- `frontmatter::starts_with` meets its contract. `Matching`: how many characters are there, and the others decide (Patterns).
use Rattle.frontmatter.proofs.Patterns.{Matching}
use Rattle.frontmatter.proofs.starts_with.Given as goal

abbrev pub invariant-loop-b : goal.invariant-loop-b
invariant-loop-b l = Matching l.pattern l.text l.initial.cur l.cur l.b-index
