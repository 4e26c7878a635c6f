-- `fields::is_word` meets its contract (Words).
use mathlib.Core.Path.{◌∙◌}
use lib.Pointwise.{bytes_decides}
use Rattle.fields.proofs.Words.{word_told}
use Rattle.fields.proofs.is_word.Goals as goal

pub returns : goal.returns
returns c =
    let d = bytes_decides c.args.field.now c.args.word.now in
    c.eq.ensures ∙ word_told _ _ d.0 d.1
