-- `lists_file::record_of` meets its contract: cut at the first two tabs (Readings).
use mathlib.Core.Path.{refl, ◌∙◌}
use Rattle.lists_file.proofs.Readings.{no_name, no_pair, record_made}
use Rattle.lists_file.proofs.record_of.Goals as goal

pub returns-in_err-name : goal.returns-in_err-name
returns-in_err-name c = c.from_residual.ensures ∙ no_name c.args.line.now c.in_err-name.ensures

pub returns-in_err-low : goal.returns-in_err-low
returns-in_err-low c = c.from_residual-in_err-low.ensures ∙ no_pair c.in_ok-name.ensures c.in_err-low.ensures

pub returns-in_err-which_of : goal.returns-in_err-which_of
returns-in_err-which_of c = c.from_residual-in_err-which_of.ensures ∙ record_made c.in_ok-name.ensures c.in_ok-low.ensures c.in_err-which_of.ensures refl refl

pub returns-in_err-number_of : goal.returns-in_err-number_of
returns-in_err-number_of c = c.from_residual-in_err-number_of.ensures ∙ record_made c.in_ok-name.ensures c.in_ok-low.ensures c.in_ok-which_of.ensures c.in_err-number_of.ensures refl

pub returns-in_err-number_of-2 : goal.returns-in_err-number_of-2
returns-in_err-number_of-2 c =
    c.from_residual-in_err-number_of-2.ensures ∙ record_made c.in_ok-name.ensures c.in_ok-low.ensures c.in_ok-which_of.ensures c.in_ok-number_of.ensures c.in_err-number_of-2.ensures

pub returns : goal.returns
returns c = record_made c.in_ok-name.ensures c.in_ok-low.ensures c.in_ok-which_of.ensures c.in_ok-number_of.ensures c.in_ok-number_of-2.ensures
