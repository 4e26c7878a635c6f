-- `numerals::number` meets its contract. The rule, by the first digit and the next character (Rules).
use Rattle.numerals.proofs.Rules.{nonzero_in, binary_in, octal_in, hexadecimal_in, unprefixed_in}
use Rattle.numerals.proofs.number.Goals.{in-98, in-111, in-120}
use Rattle.numerals.proofs.number.Goals as goal

pub returns-then-first-ne48 : goal.returns-then-first-ne48
returns-then-first-ne48 c = search nonzero_in

pub returns-in_default : goal.returns-in_default
returns-in_default c = search unprefixed_in

pub returns : goal.returns
returns c =
    elim c.match-first.branch [
      | in-98 w ↦ binary_in c.args.lists.now c.args.first c.if-first-ne48.false c.first.ensures w.in-98.is c.bump.ensures (rw w.base-is at c.based.ensures)
      | in-111 w ↦ octal_in c.args.lists.now c.args.first c.if-first-ne48.false c.first.ensures w.in-111.is c.bump.ensures (rw w.base-is at c.based.ensures)
      | in-120 w ↦ hexadecimal_in c.args.lists.now c.args.first c.if-first-ne48.false c.first.ensures w.in-120.is c.bump.ensures (rw w.base-is at c.based.ensures)
    ]
