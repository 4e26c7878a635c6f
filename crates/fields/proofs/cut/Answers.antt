-- `fields::cut` meets its contract (Cuts).
use Rattle.std.proofs.Common.{◌<◌, ◌≡◌, false, sym, length, rules}
use native.Mathlib.Omega.{arith}
use Rattle.basics.specs.Tests.{is_in}
use Rattle.fields.specs.Pieces.{piece}
use Rattle.fields.proofs.Cuts.{cut_into, no_cut, piece_long}
use Rattle.fields.proofs.cut.Goals as goal

pub returns-in_err-end : goal.returns-in_err-end
returns-in_err-end c =
    let s = c.args.s.now in
    let none : length (piece c.args.mark s) ≡ length s = piece_long c.args.mark (length s) s (omega arith) (search rules) (λ l. absurd (omega arith)) in
    let unmarked : is_in s c.args.mark ≡ false = (no_cut c.args.mark s (omega arith)).unmarked in
    search (rules, unmarked)

pub returns : goal.returns
returns c =
    let s = c.args.s.now in
    let within : c.in_ok-end.end < length s = search rules in
    let here : length (piece c.args.mark s) ≡ c.in_ok-end.end = piece_long c.args.mark c.in_ok-end.end s (omega arith) (search rules) (λ _. search rules) in
    cut_into c.args.mark s (sym here) within
