-- `lists_file::version_of` meets its contract: cut at the first three tabs (Readings).
use mathlib.Core.Path.{◌≡◌, refl, ◌∙◌}
use mathlib.Core.Bool.{true, false}
use borrow.Author.Rules.{rules}
use Rattle.fields.specs.Words.{same}
use Rattle.lists_file.specs.Names.{unicode_word}
use Rattle.lists_file.proofs.Readings.{no_word, no_major, no_minor, version_made}
use Rattle.lists_file.proofs.version_of.Goals as goal

pub returns-in_err-word : goal.returns-in_err-word
returns-in_err-word c = c.from_residual.ensures ∙ no_word c.args.line.now c.in_err-word.ensures

pub returns-in_err-major : goal.returns-in_err-major
returns-in_err-major c = c.from_residual-in_err-major.ensures ∙ no_major c.in_ok-word.ensures c.in_err-major.ensures

pub returns-in_err-minor : goal.returns-in_err-minor
returns-in_err-minor c = c.from_residual-in_err-minor.ensures ∙ no_minor c.in_ok-word.ensures c.in_ok-major.ensures c.in_err-minor.ensures

pub returns-then-not-is_word : goal.returns-then-not-is_word
returns-then-not-is_word c =
    let w : false ≡ same c.in_ok-word.word.now unicode_word = search rules in
    version_made c.in_ok-word.ensures c.in_ok-major.ensures c.in_ok-minor.ensures w refl refl refl

pub returns-in_err-decimal : goal.returns-in_err-decimal
returns-in_err-decimal c =
    let w : true ≡ same c.in_ok-word.word.now unicode_word = search rules in
    c.from_residual-in_err-decimal.ensures ∙ version_made c.in_ok-word.ensures c.in_ok-major.ensures c.in_ok-minor.ensures w c.in_err-decimal.ensures refl refl

pub returns-in_err-decimal-2 : goal.returns-in_err-decimal-2
returns-in_err-decimal-2 c =
    let w : true ≡ same c.in_ok-word.word.now unicode_word = search rules in
    c.from_residual-in_err-decimal-2.ensures ∙ version_made c.in_ok-word.ensures c.in_ok-major.ensures c.in_ok-minor.ensures w c.in_ok-decimal.ensures c.in_err-decimal-2.ensures refl

pub returns-in_err-decimal-3 : goal.returns-in_err-decimal-3
returns-in_err-decimal-3 c =
    let w : true ≡ same c.in_ok-word.word.now unicode_word = search rules in
    c.from_residual-in_err-decimal-3.ensures
    ∙ version_made c.in_ok-word.ensures c.in_ok-major.ensures c.in_ok-minor.ensures w c.in_ok-decimal.ensures c.in_ok-decimal-2.ensures c.in_err-decimal-3.ensures

pub returns : goal.returns
returns c =
    let w : true ≡ same c.in_ok-word.word.now unicode_word = search rules in
    version_made c.in_ok-word.ensures c.in_ok-major.ensures c.in_ok-minor.ensures w c.in_ok-decimal.ensures c.in_ok-decimal-2.ensures c.in_ok-decimal-3.ensures
