-- `advance::fronted` meets its contract. Whitespace, a fence, or the decision with frontmatter off (Fronts).
use Rattle.advance.proofs.Fronts.{leading_in, dashes_in, plain_in}
use Rattle.advance.proofs.fronted.Goals as goal

pub returns-then-is_whitespace : goal.returns-then-is_whitespace
returns-then-is_whitespace c = search leading_in

pub returns-then-opens : goal.returns-then-opens
returns-then-opens c = search dashes_in

pub returns : goal.returns
returns c = search plain_in
