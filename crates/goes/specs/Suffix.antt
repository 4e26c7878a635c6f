-- After a literal (mode Suffix): a name belongs to it, or the next token begins.
use Rattle.std.specs.Prelude.{ℕ, false}
use Rattle.basics.specs.Choice.{pick}
use Rattle.machine.specs.declared.Mode.TheVariants.{InName}
use Rattle.token.specs.Lists.{Lists, starting}
use Rattle.goes.specs.declared.Goes.{Goes}
use Rattle.goes.specs.declared.Goes.TheVariants.{Takes, Ends}

abbrev pub suffix_goes : Lists → (c : ℕ) → Goes
suffix_goes L c = pick (starting L c) (Takes InName) (Ends false)
