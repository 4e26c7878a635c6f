-- `lists_in::survey_file` meets its contract (Surveying).
use Rattle.std.specs.Prelude.{◌≡◌, false, Some, None, Err}
use mathlib.Core.Path.{◌∙◌}
use borrow.Author.Rules.{rules}
use Rattle.basics.specs.Tests.{is_in}
use Rattle.fields.specs.Pieces.{CutInto}
use Rattle.lists_file.specs.Lines.{version_of}
use Rattle.lists_in.proofs.Surveying.{file_unended, file_bad, file_starts, file_good}
use Rattle.lists_in.proofs.survey_file.Goals as goal

pub returns-in_err-first : goal.returns-in_err-first
returns-in_err-first c =
    let none : is_in c.args.file.now 10 ≡ false = search rules in
    let told : c.from_residual.result ≡ Err 0 = search rules in
    told ∙ file_unended c.args.file.now none

pub returns-in_err-version : goal.returns-in_err-version
returns-in_err-version c =
    let cut : CutInto 10 c.args.file.now c.in_ok-first.first.now c.in_ok-first.field-0-1.now = search rules in
    let none : None ≡ version_of c.in_ok-first.first.now = search rules in
    let told : c.from_residual-in_err-version.result ≡ Err 0 = search rules in
    told ∙ file_bad cut none

pub survey_records-requires : goal.survey_records-requires
survey_records-requires c =
    let cut : CutInto 10 c.args.file.now c.in_ok-first.first.now c.in_ok-first.field-0-1.now = search rules in
    file_starts cut

pub returns : goal.returns
returns c =
    let cut : CutInto 10 c.args.file.now c.in_ok-first.first.now c.in_ok-first.field-0-1.now = search rules in
    let some : Some c.in_ok-version.version ≡ version_of c.in_ok-first.first.now = search rules in
    file_good cut some c.survey_records.ensures
