-- `fields::find` meets its contract: the piece ends at the first mark, or with the text (Cuts).
use Rattle.std.proofs.Common.{ℕ, List, ◌+◌, ◌<◌, ◌≡◌, sym, ap, ◌∙◌, length, drop, rules}
use Rattle.std.proofs.lemmas.List.{take_rest}
use native.Mathlib.Omega.{arith}
use lib.ListN.{length-drop}
use Rattle.fields.specs.Pieces.{piece}
use Rattle.fields.proofs.Cuts.{piece_long}
use Rattle.fields.proofs.find.Goals as goal

pub returns-in-Some : goal.returns-in-Some
returns-in-Some c =
    let rest = c.iter.result.rest.now in
    let same : rest ≡ drop c.args.from c.args.s.now = search (rules, take_rest) in
    let within : c.in-Some.bytes < length rest = search rules in
    ap (λ (n : ℕ). c.args.from + n) (sym (piece_long c.args.mark c.in-Some.bytes rest (omega arith) (search rules) (λ _. search rules)) ∙ ap (λ (l : List ℕ). length (piece c.args.mark l)) same)

pub returns-in-None : goal.returns-in-None
returns-in-None c =
    let rest = c.iter.result.rest.now in
    let same : rest ≡ drop c.args.from c.args.s.now = search (rules, take_rest) in
    let all : length (piece c.args.mark rest) ≡ length rest = piece_long c.args.mark (length rest) rest (omega arith) (search rules) (λ l. absurd (omega arith)) in
    omega (arith, c.requires, length-drop c.args.from c.args.s.now, ap (λ (l : List ℕ). length (piece c.args.mark l)) same, ap length same)
