-- `lists_in::read_lists` meets its contract: 9, 3 and 7, and then the three runs (Calls).
use Rattle.std.specs.Prelude.{◌≡◌, Ok, Err}
use mathlib.Core.Path.{refl}
use borrow.Author.Rules.{rules}
use native.Mathlib.Nat.{le_refl}
use Rattle.lists_in.proofs.Calls.{judged_so, read_bad_line, read_refused, read_ready, starts_fit, continues_fit, emoji_fit, read_done}
use Rattle.lists_in.proofs.read_lists.Goals as goal

pub returns-in_err-found : goal.returns-in_err-found
returns-in_err-found c = read_bad_line _ _ c.survey_file.ensures _ _ _ _ (λ index e. search rules) (λ f e. search rules)

pub returns-in_err-held : goal.returns-in_err-held
returns-in_err-held c =
    let good : c.survey_file.result ≡ Ok c.in_ok-found.found = search rules in
    let told : c.from_residual-in_err-held.result ≡ Err c.in_err-held.field-0.0 = search rules in
    read_refused _ _ c.survey_file.ensures good _ _ _ _ c.in_err-held.ensures told

pub fill-past_starts-requires : goal.fill-past_starts-requires
fill-past_starts-requires c =
    let good : c.survey_file.result ≡ Ok c.in_ok-found.found = search rules in
    starts_fit (read_ready _ _ c.survey_file.ensures good _ _ _ _ c.in_ok-held.ensures refl) (le_refl _)

pub fill-past_continues-requires : goal.fill-past_continues-requires
fill-past_continues-requires c =
    let good : c.survey_file.result ≡ Ok c.in_ok-found.found = search rules in
    continues_fit (read_ready _ _ c.survey_file.ensures good _ _ _ _ c.in_ok-held.ensures refl) c.fill-past_starts.ensures (le_refl _)

pub fill-requires : goal.fill-requires
fill-requires c =
    let good : c.survey_file.result ≡ Ok c.in_ok-found.found = search rules in
    emoji_fit (read_ready _ _ c.survey_file.ensures good _ _ _ _ c.in_ok-held.ensures refl) c.fill-past_starts.ensures c.fill-past_continues.ensures (le_refl _)

pub returns : goal.returns
returns c =
    let good : c.survey_file.result ≡ Ok c.in_ok-found.found = search rules in
    read_done (read_ready _ _ c.survey_file.ensures good _ _ _ _ c.in_ok-held.ensures refl) c.fill-past_starts.ensures c.fill-past_continues.ensures _ c.fill.ensures (judged_so _ _ c.survey_file.ensures good _ _ _ _ c.in_ok-held.ensures)
