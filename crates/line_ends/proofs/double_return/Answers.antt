-- `line_ends::double_return` meets its contract: what is asked at each place is `double_at`, and the first place is the one found (Places).
use Rattle.std.proofs.Common.{true, false, drop, ◌≡◌, rules, tests}
use Rattle.std.proofs.lemmas.Iterator.{first_from_Range, serves_from_Range}
use Rattle.line_ends.specs.LineEnds.{double_at}
use Rattle.line_ends.proofs.Places.{double_first}
use Rattle.line_ends.proofs.double_return.Goals as goal

pub find-requires : goal.find-requires
find-requires c = record { can = tt; finite = tt; callable = serves_from_Range (λ x q k. search (rules, tests)) (λ x low high. search rules) }

pub returns : goal.returns
returns c =
    let s = c.args.text.now in
    double_first s _ (first_from_Range _ _ _ _ (λ i. double_at (drop i s) ≡ true) (λ i. double_at (drop i s) ≡ false) c.find.ensures.ran
    (λ x q k. search rules)
    (λ x q k. (search rules, search rules)))
